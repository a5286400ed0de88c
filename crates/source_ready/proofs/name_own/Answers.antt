-- `source_ready::name_own` meets its contract: in a task without conditions on sums there is none to name. Assumes nothing.
use Rattle.source_ready.proofs.Naming.{zeros-long, none_named, own-named}
use Rattle.source_ready.proofs.name_own.Goals as goal

pub returns-then-total-eq0 : goal.returns-then-total-eq0
returns-then-total-eq0 c =
    let z = c.if-total-eq0.true in
    none_named c.requires.0 (c.requires.1.none z) (c.requires.1.start z)

pub name_sums-requires : goal.name_sums-requires
name_sums-requires c =
    (c.requires.1.room c.decode_sums-own.result c.decode_sums-own.ensures, zeros-long c.requires.0)

pub returns : goal.returns
returns c =
    own-named c.requires.0 c.decode_sums-own.ensures c.args.first c.name_sums.ensures
