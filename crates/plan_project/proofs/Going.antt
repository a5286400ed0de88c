-- The loop that follows a plan: what is left of it projects to what the whole projects to, behind the source numbers found so far.
-- Assumes nothing.
use mathlib.Core.Path.{◌≡◌, refl, sym, ap, ap₂, ◌∙◌, subst}
use Prim.Native.Nat.{ℕ, suc, ◌+◌, ◌≤◌, ◌<◌}
use native.Mathlib.Omega.{arith}
use mathlib.Core.Bool.{Bool, true, false, cond}
use mathlib.Core.Option.{some}
use mathlib.Core.List.{List, [], ◌∷◌, ◌++◌, append_assoc, append-nil}
use lib.Dec.{ltb}
use lib.ListN.{length, get_or, take, drop, set, length-set, length-drop, length-append, drop_of_length-le}
use lib.Seq.{take-suc-set}
use lib.IntN.{ℤ}
use borrow.Author.Tests.{lt-ltb}
use Rattle.answers.specs.Answer.{Answer, given, refused, then}
use Rattle.model.specs.Tasks.{State}
use Rattle.source_step.specs.Step.{state}
use Rattle.source_walk.proofs.Loop.{long_after}
use Rattle.source_step.specs.Row.{modes_after}
use Rattle.source_step.specs.Ready.{marks_of, numbers_of, sums_of}
use Rattle.source_step.specs.Table.{Table, takes_by, goal_by, Usables}
use Rattle.std.specs.Prelude.{Result, Ok, Err}
use Rattle.answers.specs.Refusals.{refusal_is}
use Rattle.answers.specs.declared.Refusal.{Refusal}
use Rattle.plan_project.specs.Sources.{entry_at, source_in, Below, OpenedBy}
use Rattle.plan_project.specs.Following.{goes_on, Further, strayed_at, Advanced, project_by, noted_at, Notes, PlanFollowed}
use Rattle.plan_project.proofs.Turn.{small-entry, its-source, no_source, at-the-end, bounds, strays-here, Behind, turns}

-- ---- numbers in front of what an answer gives
abbrev pub behind : List ℕ → Answer (List ℕ) → Answer (List ℕ)
behind ns a = then a (λ p. given (ns ++ p))

behind-none : (a : Answer (List ℕ)) → a ≡ behind [] a
behind-none (given p) = refl
behind-none (refused number place) = refl

behind-one : (ns : List ℕ) (k : ℕ) (a : Answer (List ℕ)) → behind ns (then a (λ p. given (k ∷ p))) ≡ behind (ns ++ (k ∷ [])) a
behind-one ns k (given p) = ap given (sym (append_assoc ns (k ∷ []) p))
behind-one ns k (refused number place) = refl

behind-ended : (ns : List ℕ) (met : Bool) (i j : ℕ) → i ≡ j → behind ns (cond met (given []) (refused 13 i)) ≡ cond met (given ns) (refused 13 j)
behind-ended ns true i j e = ap given (append-nil ns)
behind-ended ns false i j e = ap (refused 13) e

-- ---- the numbers noted
noted-next : {noted kept : List ℕ} {found : ℕ} → Notes noted kept → length kept ≡ found → (a : ℕ) {noted' : List ℕ} → noted' ≡ noted_at noted found a
    → Notes noted' (kept ++ (a ∷ []))
noted-next {noted} {kept} {found} N c a {noted'} w = record { long = ap length w ∙ same (ltb found 512); are = more }
  where
    same : (b : Bool) → length (cond b (set noted found a) noted) ≡ 512
    same true = length-set noted found a ∙ N.long
    same false = N.long

    more : length (kept ++ (a ∷ [])) ≤ 512 → take (length (kept ++ (a ∷ []))) noted' ≡ kept ++ (a ∷ [])
    more h =
        let l : length (kept ++ (a ∷ [])) ≡ suc found = omega (arith, length-append kept (a ∷ []), c) in
        ap₂ take l (w ∙ ap (λ (b : Bool). cond b (set noted found a) noted) (lt-ltb found 512 (omega (arith, l, h))))
        ∙ take-suc-set noted found a (omega (arith, l, h, N.long))
        ∙ ap (λ (k : ℕ). take k noted ++ (a ∷ [])) (sym c) ∙ ap (λ (l : List ℕ). l ++ (a ∷ [])) (N.are (omega (arith, l, h, c)))

-- ---- the loop
module _ (T : Table) (total : ℕ) (sources q : List ℕ) (x₀ : State) where
  pub record Going (values : List ℤ) (modes noted : List ℕ) (i found : ℕ) : Type 0 where
    pub bound : i ≤ length q
    pub long : length modes ≡ 4
    pub kept : List ℕ
    pub notes : Notes noted kept
    pub counted : length kept ≡ found
    pub few : found ≤ i
    pub left : (opening : ℕ → ℕ) → OpenedBy opening sources
        → project_by T total sources opening (length q) 0 q x₀ ≡ behind kept (project_by T total sources opening (length q) i (drop i q) (state values modes))

pub begins : (T : Table) (total : ℕ) (sources q : List ℕ) (values : List ℤ) (modes : List ℕ) {noted : List ℕ} → length modes ≡ 4 → length noted ≡ 512
    → Going T total sources q (state values modes) values modes noted 0 0
begins T total sources q values modes m l =
    record {
      bound = omega arith;
      long = m;
      kept = [];
      notes = record { long = l; are = λ h. refl };
      counted = refl;
      few = omega arith;
      left = λ opening O. behind-none _;
    }

module _ {T : Table} {total : ℕ} {sources q : List ℕ} {x₀ : State} {values : List ℤ} {modes noted : List ℕ} {i found : ℕ}
    (g : Going T total sources q x₀ values modes noted i found) where
  abbrev x : State
  x = state values modes

  pub over : length q ≤ i → PlanFollowed T total sources q x₀ (Ok found) (state values modes) noted
  over h =
      let b = g.bound in
      record {
        kept = g.kept;
        notes = g.notes;
        counted = sym g.counted;
        few = omega (arith, g.counted, g.few);
        meets = λ opening O.
            g.left opening O
            ∙ ap (λ (l : List ℕ). behind g.kept (project_by T total sources opening (length q) i l x)) (drop_of_length-le q h)
            ∙ ap (behind g.kept) (at-the-end T total sources opening (length q) i x)
            ∙ behind-ended g.kept (goal_by T x) i (length q) (omega arith);
      }

  module _ (U : Usables T) (B : Below T.count sources) (k : ℕ) (is : k ≡ get_or q i 0)
      {steps : ℕ} (w : i < steps) (s : steps ≡ length q) {a : ℕ} (e : a ≡ entry_at sources k) where
    h : i < length q
    h = omega (arith, w, s)

    -- no source action stands here
    pub no-action : T.count ≤ a → {r : Refusal} → strayed_at total q i ≡ refusal_is r
        → PlanFollowed T total sources q x₀ (Err r) (state values modes) noted
    no-action l {r} strays = record {
      kept = g.kept;
      notes = g.notes;
      counted = refl;
      few = omega (arith, g.counted, g.few);
      meets = λ opening O. g.left opening O ∙ ap (behind g.kept) (strays-here T total sources opening q i k is h x (no_source sources k e B l) ∙ strays);
    }

    module _ (l : a < T.count) where
      fits : a < 32
      fits = omega (arith, U.actions_few)

      pub number_small : k ≤ 65000
      number_small = let f = fits in omega (arith, small-entry sources k (omega arith))

      pub rows-here : (a < length T.marks) × (a < length T.numbers) × (33 < length T.numbers)
      rows-here = (omega (arith, fits, U.marks_long), omega (arith, fits, U.numbers_long), omega (arith, U.numbers_long))

      opens-it : source_in sources k ≡ some a
      opens-it = its-source sources k e fits

      module _ {r : Result ℕ Refusal} {values' : List ℤ} {modes' : List ℕ}
          (A : Advanced T.variables T.modes (marks_of T.marks a) (numbers_of T.numbers a) (sums_of T.numbers) values modes
          total i q k r values' modes') where
        abbrev after : (opening : ℕ → ℕ) → OpenedBy opening sources → ℕ → List ℕ → Answer (List ℕ)
        after opening O = Behind T total sources opening O q i k is h x a opens-it l A.stepped

        turned : (opening : ℕ → ℕ) (O : OpenedBy opening sources)
            → project_by T total sources opening (length q) i (drop i q) x ≡ goes_on r q (after opening O)
        turned opening O = turns T total sources opening O q i k is h x a opens-it l A.stepped ∙ sym (A.answers (after opening O))

        pub stopped : {d : Refusal} → r ≡ Err d → PlanFollowed T total sources q x₀ (Err d) (state values' modes') noted
        stopped f = record {
          kept = g.kept;
          notes = g.notes;
          counted = refl;
          few = omega (arith, g.counted, g.few);
          meets = λ opening O. g.left opening O ∙ ap (behind g.kept) (turned opening O ∙ ap (λ (o : Result ℕ Refusal). goes_on o q (after opening O)) f);
        }

        module _ {j : ℕ} (f : r ≡ Ok j) where
          further : (A.applied ≡ true) × (i < j) × (j ≤ length q)
          further = subst (Further A.applied i q) f A.further

          pub rises : (i < j) × (j ≤ length q)
          rises = (further.1, further.2)

          moves : modes' ≡ modes_after T.modes (marks_of T.marks a) modes
          moves = let on : takes_by T x a ≡ true = sym A.stepped.is ∙ further.0 in A.stepped.modes_are ∙ rw on refl

          pub goes : {noted' : List ℕ} → noted' ≡ noted_at noted found a → Going T total sources q x₀ values' modes' noted' j (found + 1)
          goes n =
              let b : i < j = further.1 in
              record {
                bound = further.2;
                long = ap length moves ∙ long_after T.modes (marks_of T.marks a) modes U.modes_few g.long;
                kept = g.kept ++ (a ∷ []);
                notes = noted-next g.notes g.counted a n;
                counted = omega (arith, length-append g.kept (a ∷ []), g.counted);
                few = omega (arith, g.few);
                left = λ opening O. let y = state values' modes' in
                    g.left opening O
                    ∙ ap (behind g.kept) (turned opening O ∙ ap (λ (o : Result ℕ Refusal). goes_on o q (after opening O)) f
                    ∙ ap (λ (v : Answer (List ℕ)). then v (λ p. given (a ∷ p)))
                    (bounds T total sources opening (length (drop (suc i) q)) (length q) j (drop j q) y (omega (arith, length-drop (suc i) q, length-drop j q))
                    (omega (arith, length-drop j q))))
                    ∙ behind-one g.kept a (project_by T total sources opening (length q) j (drop j q) y);
              }
