use Rattle.walk.proofs.Walking.{source_written, no_room}
use Rattle.walk.proofs.arrive.Goals as goal

pub returns-then-behind-route : goal.returns-then-behind-route
returns-then-behind-route c =
    let e = source_written _ c.args.source.0 c.args.behind c.if-behind-route.true in
    record { answer = e.0; list = e.1 }

pub returns : goal.returns
returns c =
    let e = no_room _ c.args.source.0 c.args.behind c.if-behind-route.false in
    record { answer = e.0; list = e.1 }
