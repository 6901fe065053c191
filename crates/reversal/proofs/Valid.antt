-- The reversed map's lists are in order wherever the map's are, and a run does not refuse it where a run to the destination does not refuse the
-- map. Assumes nothing.
use Prim.Native.Nat.{ℕ, suc, ◌<◌}
use native.Mathlib.Omega.{arith}
use mathlib.Core.Path.{◌≡◌, sym, ◌∙◌}
use lib.ListN.{length-map}
use Rattle.theory.specs.Maps.{Map, arcs, head_of, cost_of, tail_of, Sound, Valid}
use Rattle.theory.proofs.Maps.Arcs.{leaves_node, leaves_arc}
use Rattle.theory.proofs.Maps.Tails.{tail_leaves}
use Rattle.grouping.proofs.Groups.{below_none, below_mono}
use Rattle.grouping.proofs.Starts.{starts_length}
use Rattle.reversal.specs.Reversed.{numbers_below, old_numbers, reversed, old_number, ValidTo}
use Rattle.reversal.proofs.Numbers.{old_length, old_below, heads_counted, new_start, new_head, new_cost, leaves_old}

module _ {M : Map} {s : ℕ} (sound : Sound M s) where
  pub reversed_arcs : arcs (reversed M) ≡ arcs M
  unfolding reversed
  reversed_arcs = length-map (old_numbers M) (tail_of M.nodes M.starts) ∙ old_length sound

  pub reversed_sound : Sound (reversed M) s
  unfolding reversed
  reversed_sound = record {
    some_node = sound.some_node;
    few_nodes = sound.few_nodes;
    source_node = sound.source_node;
    few_arcs = omega (arith, reversed_arcs, sound.few_arcs);
    costs_length = length-map (old_numbers M) (cost_of M) ∙ old_length sound ∙ sym reversed_arcs;
    holds_length = sound.holds_length;
    starts_length = starts_length (head_of M) 0 (suc M.nodes) (numbers_below (arcs M));
    starts_first = new_start sound 0 (omega arith) ∙ below_none (head_of M) (numbers_below (arcs M));
    starts_rise = λ v l.
        omega (
          arith,
          new_start sound v (omega arith),
          new_start sound (suc v) l,
          below_mono (head_of M) v (suc v) (numbers_below (arcs M)) (omega arith),
        );
    starts_last = new_start sound M.nodes (omega arith) ∙ heads_counted sound (arcs M) (omega arith) ∙ sym reversed_arcs;
    heads_nodes = λ p l.
        let low : p < arcs M = omega (arith, reversed_arcs) in
        rw (new_head sound p low) (leaves_node sound (old_number M p) _ (tail_leaves sound (old_number M p) (old_below sound p low)));
  }

pub reversed_valid : {M : Map} {C s : ℕ} → ValidTo M C s → Valid (reversed M) C s
unfolding reversed
reversed_valid {M} {C} {s} valid =
    let sound = reversed_sound valid.sound in
    record {
      sound = sound;
      low_ceiling = valid.low_ceiling;
      holds_most = valid.holds_most;
      sums_most = λ p v h.
          let low : p < arcs M = omega (arith, leaves_arc sound p v h, reversed_arcs valid.sound) in
          rw (new_cost valid.sound p low, ← leaves_old valid.sound p v h) (valid.sums_most (old_number M p) (old_below valid.sound p low));
    }
