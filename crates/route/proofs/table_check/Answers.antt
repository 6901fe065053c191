-- `route::table_check` meets its contract: where the sizes pass, the words can be looked at.
use mathlib.Core.Path.{sym, ◌∙◌}
use Rattle.model.specs.declared.Kind.TheVariants.{NodeCount}
use Rattle.checks.proofs.Sizes.{passed_range, passed_starts}
use Rattle.route.proofs.table_check.Goals as goal

pub starts_check-requires : goal.starts_check-requires
starts_check-requires c = passed_starts _ _ (sym c.start_count_check.ensures ∙ c.in_ok-start_count_check.was)

pub heads_check-requires : goal.heads_check-requires
heads_check-requires c = (passed_range NodeCount _ 1 4096 (sym c.nodes_check.ensures ∙ c.in_ok-nodes_check.was)).0
