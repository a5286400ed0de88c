-- `lowering_file::any_several` meets its contract: the loop goes over all actions. Assumes nothing.
use mathlib.Core.Path.{refl}
use native.Mathlib.Omega.{arith}
use Rattle.file_actions.proofs.Accepted.{bytes-of}
use Rattle.lowering_file.proofs.Declared.{actions-few}
use Rattle.lowering_file.proofs.Sums.{seeking-start, seeking-next, seeking-end}
use Rattle.lowering_file.proofs.any_several.Goals as goal

pub loop-k-init : goal.loop-k-init
loop-k-init c =
    (seeking-start (bytes-of c.args.file.now (λ i. omega (arith, c.shared_slice_known-1.given i))), refl, refl)

pub decode_action-effects-requires : goal.decode_action-effects-requires
decode_action-effects-requires c =
    let inv = c.loop-k.invariant in record { places_of = (c.requires.1, c.loop-k-test.true, actions-few c.args.file.now c.args.count inv.0.bytes c.requires.0); marks_len = (inv.1, inv.2) }

pub some_several-several-requires : goal.some_several-several-requires
some_several-several-requires c =
    let decoded = c.decode_action-effects.ensures in
    record { few = decoded.few; terms_few = decoded.terms_few }

pub loop-k-preserved : goal.loop-k-preserved
loop-k-preserved c =
    let r = c.decode_action-effects in
    let decoded = r.ensures in (
      seeking-next c.requires.0 c.loop-k.invariant.0 c.loop-k-test.true _ _ r.result decoded
          c.some_several-several.result c.some_several-several.ensures,
      decoded.parts.marks_long,
      decoded.parts.numbers_long,
    )

pub returns : goal.returns
returns c =
    seeking-end c.requires.0 c.loop-k.invariant.0 c.loop-k-test.false
