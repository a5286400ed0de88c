-- `plan_project::advance_macro` meets its contract: the test of the rows, the strokes, and how far the plan agrees with their numbers; then the rest
-- of the step, and where it is not taken the walk to the dead end. Assumes nothing.
use mathlib.Core.Path.{◌≡◌, refl, sym, ap, ap₂, ◌∙◌}
use mathlib.Core.Bool.{true}
use mathlib.Core.List.{List}
use Prim.Native.Nat.{ℕ, ◌+◌, ◌≤◌, ◌<◌}
use native.Mathlib.Omega.{arith}
use lib.ListN.{length, take, drop, length-drop}
use lib.IntN.{ℤ}
use borrow.Author.Tests.{not-true, not-false}
use Rattle.model.specs.Plans.{plan_numbers}
use Rattle.model.specs.Steps.{integer_at}
use Rattle.model.specs.Following.{agreeing}
use Rattle.model.proofs.FollowingWalks.{agreeing-there}
use Rattle.source_step.specs.Row.{effect_count_at, effects_at, first_outside, held, Reads}
use Rattle.source_step.proofs.Taking.{read-when-held}
use Rattle.plan_strokes.specs.Strokes.{strokes_of, step_numbers, price_of_strokes}
use Rattle.plan_strokes.proofs.Ranges.{sets-there}
use Rattle.plan_project.specs.Following.{strokes_walked, numbers_at}
use Rattle.plan_project.proofs.Numbers.{strokes-length}
use Rattle.plan_project.proofs.Advancing.{macro-refused, macro-past, macro-into, one_outside, front-is, front-priced}
use mathlib.Core.Bool.{not}
use Rattle.plan_project.proofs.advance_macro.Goals as goal
use Rattle.plan_project.proofs.advance_macro.Lts as lts
use Rattle.plan_project.proofs.advance_macro.Reads as reads
use Rattle.plan_project.proofs.advance_macro.Tie as tie

abbrev plan_of : lts.Start tie.the-claims reads.Pre reads.Post tie.handed_clauses → List ℕ
plan_of s = plan_numbers s.args.plan.now

abbrev numbers_of : lts.Start tie.the-claims reads.Pre reads.Post tie.handed_clauses → List ℕ
numbers_of s = numbers_at s.args.n s.args.m s.args.marks.now s.args.numbers.now s.args.sums.now s.args.values.now
    s.args.modes.now s.args.opening

abbrev strokes_in : lts.Start tie.the-claims reads.Pre reads.Post tie.handed_clauses → List ℤ
strokes_in s = strokes_of (effects_at s.args.marks.now s.args.numbers.now) (integer_at (take s.args.n s.args.values.now))

pub returns-then-not-holds : goal.returns-then-not-holds
returns-then-not-holds c = rw c.at.ensures (record {
  advanced = macro-refused c.args.n c.args.m c.args.marks.now c.args.numbers.now c.args.sums.now c.args.values.now
      c.args.modes.now c.args.total c.args.at (plan_of c.before.before.before.before.before) c.args.opening c.requires.macro_is.0
      (sym c.holds.ensures ∙ not-true _ (ap not c.if-not-holds.true));
  times_len = c.requires.n_bound.3;
})

-- the rows' test passed
module _ (c : lts.Else1 tie.the-claims reads.Pre reads.Post tie.handed_clauses) where
  abbrev s : lts.Start tie.the-claims reads.Pre reads.Post tie.handed_clauses
  s = c.before.before.before

  passed : held s.args.n s.args.m s.args.marks.now s.args.numbers.now s.args.sums.now s.args.values.now s.args.modes.now
      ≡ true
  passed = sym c.holds.ensures ∙ not-false _ (ap not c.if-not-holds.false)

  row_reads : Reads s.args.n s.args.values.now s.args.marks.now s.args.numbers.now
  row_reads = read-when-held s.args.m s.args.values.now s.args.modes.now s.requires.n_bound.0 s.requires.usable passed

pub put_strokes-count-requires : goal.put_strokes-count-requires
put_strokes-count-requires c = let e = c.before.before.before in ((s e).requires.n_bound.3, refl, row_reads e)

pub matches_step-matched-requires : goal.matches_step-matched-requires
matches_step-matched-requires c =
    let l = c.put_strokes-count.ensures.listed in
    let a = s c.before.before.before.before in
    (a.requires.macro_is.3, l.few, l.long, omega (arith, a.requires.macro_is))

-- the strokes were compared
module _ (f : lts.After-matches_step tie.the-claims reads.Pre reads.Post tie.handed_clauses) where
  abbrev strokes_put : lts.After-put_strokes tie.the-claims reads.Pre reads.Post tie.handed_clauses
  strokes_put = f.before

  abbrev test : lts.Else1 tie.the-claims reads.Pre reads.Post tie.handed_clauses
  test = f.before.before.before.before

  matched-is : f.matches_step-matched.result ≡ agreeing (numbers_of (s test)) (drop (s test).args.at (plan_of (s test)))
  matched-is =
      f.matches_step-matched.ensures
      ∙ ap (λ (zs : List ℤ). agreeing (step_numbers (s test).args.opening zs) (drop (s test).args.at (plan_of (s test))))
      strokes_put.put_strokes-count.ensures.listed.is

  fits : ((s test).args.steps ≡ length (plan_of (s test))) × ((s test).args.at + f.matches_step-matched.result ≤ (s test).args.steps)
  fits =
      let a = s test in
      let rest = drop a.args.at (plan_of a) in
      (a.requires.macro_is.1, omega (arith, matched-is, agreeing-there (numbers_of a) rest, length-drop a.args.at (plan_of a), a.requires.macro_is))

pub finish-requires : goal.finish-requires
finish-requires c =
    let f = c.before.before.before.before in
    let a = s (test f) in
    (a.requires.n_bound.0, a.requires.n_bound.1, a.requires.n_bound.2, a.requires.usable.keeps, (strokes_put f).put_strokes-count.ensures.results_are)

pub price_of-size-requires : goal.price_of-size-requires
price_of-size-requires c =
    let l = (strokes_put c.before.before.before.before.before.before).put_strokes-count.ensures.listed in (l.few, l.long, rw l.is l.within)

-- all of them were priced
size_is : (p : lts.After-price_of tie.the-claims reads.Pre reads.Post tie.handed_clauses) → p.price_of-size.result ≡ length (numbers_of (s (test p.before.before.before.before.before.before)))
size_is p =
    let f = p.before.before.before.before.before.before in
    p.price_of-size.ensures.0
    ∙ sym (strokes-length (s (test f)).args.opening _)
    ∙ ap (λ (zs : List ℤ). length (step_numbers (s (test f)).args.opening zs)) (strokes_put f).put_strokes-count.ensures.listed.is

pub past_macro-requires : goal.past_macro-requires
past_macro-requires c =
    let f = c.before.before.before.before.before.before.before in
    ((fits f).0, (fits f).1, omega (arith, size_is c.before))

pub returns-then-finish : goal.returns-then-finish
returns-then-finish c =
    let f = c.before.before.before.before.before.before.before.before in
    let a = s (test f) in record {
      advanced = macro-past a.args.n a.args.m a.args.marks.now a.args.numbers.now a.args.sums.now a.args.values.now
          a.args.modes.now a.args.total a.args.at (plan_of a) a.args.opening a.requires.macro_is.0
          (passed (test f)) (matched-is f) c.finish.ensures c.if-finish.true (size_is c.before.before) c.past_macro.ensures.answers c.past_macro.ensures.further;
      times_len = (strokes_put f).put_strokes-count.ensures.listed.long;
    }

-- where it hangs
first-is : (o : lts.After-first_outside tie.the-claims reads.Pre reads.Post tie.handed_clauses) → let a = s (test o.before.before.before.before.before.before.before) in
    o.first_outside-first.result ≡ first_outside a.args.n a.args.marks.now a.args.numbers.now a.args.values.now
first-is o =
    let f = o.before.before.before.before.before.before.before in
    let a = s (test f) in
    o.first_outside-first.ensures a.args.n a.args.values.now (strokes_put f).put_strokes-count.ensures.results_are

first-there : (c : lts.After-effect_count tie.the-claims reads.Pre reads.Post tie.handed_clauses) → c.first_outside-first.result < c.effect_count.result
first-there c =
    omega (arith, first-is c.before, c.effect_count.ensures, one_outside c.finish.ensures c.if-finish.false)

pub strokes_walked-walked-requires : goal.strokes_walked-walked-requires
strokes_walked-walked-requires c =
    let f = c.before.before.before.before.before.before.before.before.before in
    let a = s (test f) in
    let l = (strokes_put f).put_strokes-count.ensures.listed in (
      first-there c.before,
      omega (arith, c.effect_count.ensures),
      omega (
        arith,
        c.effect_count.ensures,
        l.counted,
        sets-there a.requires.macro_is.0 a.args.numbers.now
            (integer_at (take a.args.n a.args.values.now)),
      ),
      l.few,
    )

-- the strokes up to there
module _ (w : lts.After-strokes_walked tie.the-claims reads.Pre reads.Post tie.handed_clauses) where
  abbrev put : lts.After-put_strokes tie.the-claims reads.Pre reads.Post tie.handed_clauses
  put = strokes_put w.before.before.before.before.before.before.before.before.before

  few : w.strokes_walked-walked.result ≤ put.put_strokes-count.result
  few = omega (arith, w.strokes_walked-walked.ensures)

pub price_of-size-requires-2 : goal.price_of-size-requires-2
price_of-size-requires-2 c = let w = c.before in front-priced (put w).put_strokes-count.ensures.listed w.strokes_walked-walked.result (few w)

-- how many of the strokes of a step are gone through where it hangs
abbrev walked_in : lts.Start tie.the-claims reads.Pre reads.Post tie.handed_clauses → ℕ
walked_in a =
    strokes_walked (length (strokes_in a)) (effect_count_at a.args.marks.now)
    (first_outside a.args.n a.args.marks.now a.args.numbers.now a.args.values.now)

walked-size : (p : lts.After-price_of2 tie.the-claims reads.Pre reads.Post tie.handed_clauses) → let a = s (test p.before.before.before.before.before.before.before.before.before.before) in
    p.price_of-size-2.result ≡ price_of_strokes (take (walked_in a) (strokes_in a))
walked-size p =
    let w = p.before in
    let a = s (test p.before.before.before.before.before.before.before.before.before.before) in
    let l = (put w).put_strokes-count.ensures.listed in
    let many : w.strokes_walked-walked.result ≡ walked_in a =
    w.strokes_walked-walked.ensures ∙ ap₂ (λ (i j : ℕ). strokes_walked i j p.first_outside-first.result) l.counted p.effect_count.ensures
    ∙ ap (strokes_walked (length (strokes_in a)) (effect_count_at a.args.marks.now)) (first-is p.before.before.before) in
    p.price_of-size-2.ensures.0 ∙ ap price_of_strokes (front-is l w.strokes_walked-walked.result (few w) ∙ ap (λ (k : ℕ). take k (strokes_in a)) many)

pub into_macro-requires : goal.into_macro-requires
into_macro-requires c =
    let f = c.before.before.before.before.before.before.before.before.before.before.before in
    ((fits f).0, (fits f).1, omega (arith, c.price_of-size-2.ensures.0))

pub returns : goal.returns
returns c =
    let f = c.before.before.before.before.before.before.before.before.before.before.before.before in
    let a = s (test f) in record {
      advanced = macro-into a.args.n a.args.m a.args.marks.now a.args.numbers.now a.args.sums.now a.args.values.now
          a.args.modes.now a.args.total a.args.at (plan_of a) a.args.opening a.requires.macro_is.0
          (passed (test f)) (matched-is f) c.finish.ensures c.if-finish.false (walked-size c.before.before) c.into_macro.ensures.answers c.into_macro.ensures.further;
      times_len = (strokes_put f).put_strokes-count.ensures.listed.long;
    }
