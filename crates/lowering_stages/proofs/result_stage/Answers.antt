-- `lowering_stages::result_stage` meets its contract: effect by effect. Assumes nothing.
use mathlib.Core.Path.{sym, subst, ◌≡◌, refl}
use mathlib.Core.Option.{some}
use mathlib.Core.List.{[], ◌∷◌}
use Prim.Native.Nat.{ℕ, ◌≤◌}
use native.Mathlib.Omega.{arith}
use native.Mathlib.Numerals.{add-one}
use lib.ListN.{get_elem?, length}
use lib.IntN.{ℤ, pos}
use mir.Syntax.{w64}
use mir.Val.{SFits}
use mir.Facts.{to_z-of_z}
use borrow.Author.Rules.{rules}
use Rattle.lists.proofs.Loops.{length-mapped}
use Rattle.model.specs.Stages.{Name, Stage, drain, refill, divide, empty, helper_a, helper_b}
use Rattle.lowering_stages.proofs.Effects.{linear-length, weights-small}
use Rattle.lowering_stages.proofs.result_stage.Goals as goal

-- a Q or an R by its c, said in another way
same : (y : ℕ) (emptied : Name) (j : ℕ) {c c' : ℤ} (d : Stage) → c ≡ c' → get_elem? (drain y (pos 1) ∷ refill y ∷ divide c ∷ empty emptied ∷ []) j ≡ some d
    → get_elem? (drain y (pos 1) ∷ refill y ∷ divide c' ∷ empty emptied ∷ []) j ≡ some d
same y emptied j d e h = subst (λ (x : ℤ). get_elem? (drain y (pos 1) ∷ refill y ∷ divide x ∷ empty emptied ∷ []) j ≡ some d) e h

pub linear_stage-requires : goal.linear_stage-requires
linear_stage-requires c =
    let p = c.args.place in
    let l : length p.terms ≡ 4 = search (rules, length-mapped) in
    let ok = c.requires.1 in
    let few : p.term_count ≤ length p.terms = omega (arith, ok.terms_few) in
    let below = rw c.in-Linear.is at c.requires.2 in (
      c.requires.0,
      ok.terms_few,
      omega (arith, below, linear-length p.term_count p.terms few),
      weights-small c.args.a p.term_count
          p.terms few (rw c.in-Linear.is at ok.effect_ok).3.0,
    )

pub division_stage-requires : goal.division_stage-requires
division_stage-requires c =
    let k : SFits w64 c.in-Quotient.c = search rules in
    rw (to_z-of_z k) (c.requires.0, (rw c.in-Quotient.is at c.requires.1.effect_ok).2)

pub division_stage-requires-in-Residue : goal.division_stage-requires-in-Residue
division_stage-requires-in-Residue c =
    let k : SFits w64 c.in-Residue.c = search rules in
    rw (to_z-of_z k) (c.requires.0, (rw c.in-Residue.is at c.requires.1.effect_ok).2)

pub returns-in-None : goal.returns-in-None
returns-in-None c =
    let h = rw c.in-None.is at c.requires.1.effect_ok in
    absurd (omega (arith, h.1.0))

pub returns-in-Add : goal.returns-in-Add
returns-in-Add c =
    rw c.in-Add.is c.term_stage.ensures

pub returns-in-Linear : goal.returns-in-Linear
returns-in-Linear c =
    rw c.in-Linear.is c.linear_stage.ensures

pub returns-in-Quotient : goal.returns-in-Quotient
returns-in-Quotient c =
    let s = c.args in
    let k : SFits w64 c.in-Quotient.c = search rules in
    rw c.in-Quotient.is (λ d f. c.division_stage.ensures helper_a refl d (same c.in-Quotient.y helper_a s.j d (sym (to_z-of_z k)) f))

pub returns-in-Residue : goal.returns-in-Residue
returns-in-Residue c =
    let s = c.args in
    let k : SFits w64 c.in-Residue.c = search rules in
    rw c.in-Residue.is (λ d f. c.division_stage-in-Residue.ensures helper_b (add-one s.a) d (same c.in-Residue.y helper_b s.j d (sym (to_z-of_z k)) f))
