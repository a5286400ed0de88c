-- `lowering_stages::stage_at` meets its contract: by how many effects there are, and of several by where the stage is found. Assumes nothing.
use mathlib.Core.Path.{◌≡◌, refl, sym, ap, ◌∙◌, subst}
use mathlib.Core.List.{List, [], ◌∷◌}
use Prim.Native.Nat.{ℕ, zero, suc, ◌≤◌, ◌<◌}
use native.Mathlib.Omega.{arith}
use lib.ListN.{length, get_or, get_elem?}
use borrow.Author.Rules.{rules}
use Rattle.lists.proofs.Loops.{length-mapped}
use Rattle.model.specs.Tasks.{Effect}
use Rattle.model.specs.Stages.{stages_of}
use Rattle.file_actions.specs.Views.{numeric_is, effects_is}
use Rattle.lowering_stages.specs.Shapes.{lower_of, upper_of}
use Rattle.lowering_stages.proofs.Effects.{no_place, effects-length, place_ok}
use Rattle.lowering_stages.proofs.Holds.{no-stages, one-alone, found-held, found-unloaded, found_below}
use Rattle.lowering_stages.proofs.stage_at.Goals as goal
use Rattle.lowering_stages.proofs.stage_at.Lts as lts
use Rattle.lowering_stages.proofs.stage_at.Reads as reads
use Rattle.lowering_stages.proofs.stage_at.Tie as tie

-- there are as many places as there is room for
long : (s : lts.Start tie.the-claims reads.Pre reads.Post tie.handed_clauses) → length s.args.effects.places ≡ 3
long s = search (rules, length-mapped)

-- an action that has stages has an effect
counted : (s : lts.Start tie.the-claims reads.Pre reads.Post tie.handed_clauses) → s.args.effects.count < 2 → s.args.effects.count ≡ 1
counted s few = by s.args.effects.count refl
  where
    by : (n : ℕ) → n ≡ s.args.effects.count → s.args.effects.count ≡ 1
    by zero e =
        let none = no-stages (lower_of s.args.shape) (upper_of s.args.shape) (effects_is s.args.effects) (omega (arith, effects-length s.args.effects, e)) in
        absurd (omega (arith, s.requires.3, ap length none))
    by (suc n) e = omega arith

single : (s : lts.Start tie.the-claims reads.Pre reads.Post tie.handed_clauses) → s.args.effects.count < 2 → effects_is s.args.effects ≡ numeric_is (get_or s.args.effects.places 0 no_place) ∷ []
single s few = one-alone s.args.effects (omega (arith, long s)) (counted s few)

many : (s : lts.Start tie.the-claims reads.Pre reads.Post tie.handed_clauses) → 2 ≤ s.args.effects.count → 2 ≤ length (effects_is s.args.effects)
many s h = omega (arith, effects-length s.args.effects, long s)

pub single_stage-requires : goal.single_stage-requires
single_stage-requires c =
    let s = c.before.before in
    let few = c.if-count-lt2.true in
    let h = s.args.shape in (
      s.requires.0,
      place_ok s.args.effects 0 (omega (arith, long s)) s.args.a s.requires.1 (omega (arith, counted s few)),
      s.requires.2,
      subst (λ (es : List Effect). s.args.j < length (stages_of (lower_of h) (upper_of h) es)) (single s few) s.requires.3,
    )

pub returns-then-count-lt2 : goal.returns-then-count-lt2
returns-then-count-lt2 c =
    let h = c.args.shape in
    λ d g. c.single_stage.ensures d
    (sym (ap (λ (es : List Effect). get_elem? (stages_of (lower_of h) (upper_of h) es) c.args.j) (single c.before.before.before c.if-count-lt2.true)) ∙ g)

pub returns-then-e-count : goal.returns-then-e-count
returns-then-e-count c =
    let h = c.args.shape in
    λ d g. c.held_stage.ensures _ d
    (found-held (lower_of h) (upper_of h) c.find_stage-found.ensures (many c.before.before.before.before c.if-count-lt2.false) d g)

pub unload_stage-requires : goal.unload_stage-requires
unload_stage-requires c =
    let h = c.args.shape in
    let n = effects-length c.args.effects in
    let below = found_below (lower_of h) (upper_of h) c.find_stage-found.ensures (many c.before.before.before c.if-count-lt2.false) (omega (arith, n, c.if-e-count.false))
    c.requires.3 in
    (c.requires.0, c.requires.1.few.few, c.requires.2, omega (arith, below, n))

pub returns : goal.returns
returns c =
    let h = c.args.shape in
    let past : length (effects_is c.args.effects) ≤ c.find_stage-found.result.effect = omega
    (arith, effects-length c.args.effects, c.if-e-count.false) in
    λ d g. c.unload_stage.ensures d
    (found-unloaded (lower_of h) (upper_of h) c.find_stage-found.ensures (many c.before.before.before.before c.if-count-lt2.false) past d g)
