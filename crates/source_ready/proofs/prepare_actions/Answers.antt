-- `source_ready::prepare_actions` meets its contract: each turn makes the rows of one action more. Assumes nothing.
use mathlib.Core.Path.{◌≡◌, refl, sym, ap, ap₂, ◌∙◌, subst, subst⁻¹}
use native.Mathlib.Omega.{arith}
use native.Mathlib.Numerals.{add-one}
use mathlib.Core.List.{List}
use Prim.Native.Nat.{ℕ, ◌+◌, ◌≤◌}
use lib.ListN.{length-set}
use borrow.Author.Rules.{rules}
use Rattle.model.specs.Steps.{natural_at}
use Rattle.model.specs.Decoding.{sum_conditions_of}
use Rattle.model.specs.ActionBytes.{edge_of, action_part, decode_action}
use Rattle.file_actions.specs.Places.{part_of}
use Rattle.file_actions.proofs.Accepted.{bytes-of}
use Rattle.source_step.proofs.Judging.{few-actions}
use Rattle.source_ready.specs.Made.{Named, OwnBehind, OwnNamed, PlacedAt}
use Rattle.source_ready.proofs.Preparing.{marks-put, action-fits, begins, own_behind, one_more, all_made}
use Rattle.source_ready.proofs.prepare_actions.Goals as goal

-- the bytes of a turn are those of its action
part-is : (file places : List ℕ) (k : ℕ) → PlacedAt file places k → {part : List ℕ} → part ≡ part_of file (natural_at places k) (natural_at places (k + 1))
    → part ≡ action_part file k
part-is file places k at e = e ∙ ap₂ (part_of file) at.start (at.end ∙ ap (edge_of file) (add-one k))

-- what is named by the bytes of a part is named by those of another that is the same
name_moved : {part part' : List ℕ} → part ≡ part' → {first own : ℕ} {marks : List ℕ} → OwnNamed (sum_conditions_of (decode_action part)) first marks own
    → OwnNamed (sum_conditions_of (decode_action part')) first marks own
name_moved e {first} {own} {marks} o = subst (λ (z : List ℕ). OwnNamed (sum_conditions_of (decode_action z)) first marks own) e o

pub loop-k-init : goal.loop-k-init
loop-k-init c =
    let bytes = bytes-of c.args.file.now (λ i. search rules) in record {
      made = begins c.args.file.now bytes c.args.count c.args.n c.args.lower.now c.args.upper.now c.args.m c.args.sizes.now
          c.requires.0 c.requires.1 _ _ c.requires.3 c.requires.4 c.requires.5;
      parts_long = refl;
      constants_long = refl;
      bytes = bytes;
      few = few-actions c.args.file.now c.args.count bytes c.requires.0;
    }

pub decode_placed-effects-requires : goal.decode_placed-effects-requires
decode_placed-effects-requires c = (
  omega (arith, c.loop-k.invariant.few, c.loop-k-test.true),
  c.requires.2.each c.loop-k.k c.loop-k-test.true,
  c.loop-k.invariant.parts_long,
  c.loop-k.invariant.constants_long,
)

pub name_own-own-requires : goal.name_own-own-requires
name_own-own-requires c =
    let a = c.args in
    let inv = c.loop-k.invariant in
    let at = c.requires.2.each c.loop-k.k c.loop-k-test.true in
    let part = part-is c.args.file.now c.args.places.now c.loop-k.k at c.part-part.ensures in
    let behind = own_behind a.file.now inv.bytes a.count a.n a.lower.now a.upper.now a.m a.sizes.now c.requires.0 c.requires.1
    inv.made c.loop-k-test.true in (
      inv.made.blank.marks_blank c.loop-k.k (omega arith) (omega (arith, inv.few, c.loop-k-test.true)),
      subst⁻¹ (λ (z : List ℕ). OwnBehind (sum_conditions_of (decode_action z)) c.args.total c.loop-k.first) part behind,
    )

pub bounds-marks-k-in-loop-k : goal.bounds-marks-k-in-loop-k
bounds-marks-k-in-loop-k c = omega (
  arith,
  c.loop-k.invariant.few,
  c.loop-k-test.true,
  c.loop-k.invariant.made.blank.marks_long,
  length-set c.loop-k.marks c.loop-k.k c.name_own-own.new.marks,
)

pub put_row-requires : goal.put_row-requires
put_row-requires c =
    let a = c.args in
    let inv = c.loop-k.invariant in
    let at = c.requires.2.each c.loop-k.k c.loop-k-test.true in
    let part = part-is c.args.file.now c.args.places.now c.loop-k.k at c.part-part.ensures in
    let own = name_moved part c.name_own-own.ensures in
    let blank = inv.made.blank in
    let low : c.loop-k.k ≤ 32 = omega (arith, inv.few, c.loop-k-test.true) in (
      subst⁻¹ Named (marks-put c.loop-k.marks c.loop-k.k c.name_own-own.new.marks blank.marks_long low) own.named,
      blank.numbers_blank c.loop-k.k (omega arith) (omega arith),
      action-fits a.file.now inv.bytes a.count a.n a.lower.now a.upper.now a.m a.sizes.now c.requires.0 c.requires.1
          c.loop-k.k c.loop-k-test.true _ _ c.decode_placed-effects.result own.own c.decode_placed-effects.ensures own.decoded,
    )

pub overflow_add-first : goal.overflow_add-first
overflow_add-first c =
    let a = c.args in
    let inv = c.loop-k.invariant in
    let at = c.requires.2.each c.loop-k.k c.loop-k-test.true in
    let part = part-is c.args.file.now c.args.places.now c.loop-k.k at c.part-part.ensures in
    let own = name_moved part c.name_own-own.ensures in
    let behind = own_behind a.file.now inv.bytes a.count a.n a.lower.now a.upper.now a.m a.sizes.now c.requires.0 c.requires.1
    inv.made c.loop-k-test.true in
    omega (arith, own.counted, behind.room own.own own.decoded)

pub loop-k-preserved : goal.loop-k-preserved
loop-k-preserved c =
    let a = c.args in
    let inv = c.loop-k.invariant in
    let at = c.requires.2.each c.loop-k.k c.loop-k-test.true in
    let part = part-is c.args.file.now c.args.places.now c.loop-k.k at c.part-part.ensures in
    let own = name_moved part c.name_own-own.ensures in
    record {
      made = one_more a.file.now inv.bytes a.count a.n a.lower.now a.upper.now a.m a.sizes.now c.requires.0 c.requires.1
          inv.made c.loop-k-test.true _ _ c.decode_placed-effects.result c.decode_placed-effects.ensures own _ _ c.put_row.ensures;
      parts_long = c.decode_placed-effects.ensures.parts.marks_long;
      constants_long = c.decode_placed-effects.ensures.parts.numbers_long;
      bytes = inv.bytes;
      few = inv.few;
    }

pub shape_of-marks : goal.shape_of-marks
shape_of-marks c = c.loop-k.invariant.made.blank.marks_long ∙ sym c.requires.3.marks_long

pub shape_of-numbers : goal.shape_of-numbers
shape_of-numbers c = c.loop-k.invariant.made.blank.numbers_long ∙ sym c.requires.3.numbers_long

pub returns : goal.returns
returns c =
    let a = c.args in
    let inv = c.loop-k.invariant in
    all_made a.file.now inv.bytes a.count a.n a.lower.now a.upper.now a.m a.sizes.now c.requires.0 c.requires.1
    inv.made c.loop-k-test.false
