use native.Mathlib.Omega.{arith}
use Rattle.fields.proofs.Written.{writes_then, writes_same, writes_length}
use Rattle.plan_writing.proofs.Whole.{text_length, text_parts}
use Rattle.plan_writing.proofs.put_text.Goals as goal

pub put_line-arcs-requires : goal.put_line-arcs-requires
put_line-arcs-requires c =
    let args = c.args in
    omega (arith, c.requires.told_in_bounds, text_length args.first.now args.n args.starts.now args.heads.now args.costs.now args.told.now)

pub put_arcs-holds-requires : goal.put_arcs-holds-requires
put_arcs-holds-requires c =
    let args = c.args in record {
      in_order = c.requires.text_lines.in_order;
      costs_in_bounds = omega (
        arith,
        c.requires.told_in_bounds,
        text_length args.first.now args.n args.starts.now args.heads.now args.costs.now args.told.now,
        c.put_line-arcs.ensures.behind,
        writes_length c.put_line-arcs.ensures,
      );
    }

pub put_holds-requires : goal.put_holds-requires
put_holds-requires c =
    let args = c.args in
    omega (
      arith,
      c.requires.told_in_bounds,
      text_length args.first.now args.n args.starts.now args.heads.now args.costs.now args.told.now,
      c.put_line-arcs.ensures.behind,
      writes_length c.put_line-arcs.ensures,
      c.put_arcs-holds.ensures.behind,
      writes_length c.put_arcs-holds.ensures,
    )

pub returns : goal.returns
returns c =
    let args = c.args in
    writes_same (text_parts args.first.now args.n args.starts.now args.heads.now args.costs.now args.told.now)
    (writes_then (writes_then c.put_line-arcs.ensures c.put_arcs-holds.ensures) c.put_holds.ensures)
