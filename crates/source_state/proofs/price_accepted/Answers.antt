-- `source_state::price_accepted` meets its contract: whether the step applies, then the price of its strokes over the values before it.
-- Assumes nothing.
use mathlib.Core.Path.{◌≡◌, refl, sym, ap, ◌∙◌}
use mathlib.Core.Bool.{true, not}
use lib.ListN.{length}
use borrow.Author.Tests.{not-true, not-false}
use borrow.Author.Rules.{rules}
use Rattle.source_state.proofs.Pricing.{not-priced, priced-alone, readable}
use Rattle.source_state.proofs.price_accepted.Goals as goal
use Rattle.source_state.proofs.price_accepted.Goals.{Start, Else-not-applies}

values-long : (s : Start) → length s.args.state.values ≡ 8
values-long s = search rules

modes-long : (s : Start) → length s.args.state.modes ≡ 4
modes-long s = search rules

pub returns-then-not-applies : goal.returns-then-not-applies
returns-then-not-applies c =
    let s = (goal.at.returns-then-not-applies c).Start in
    let no = not-true _ (ap not c.if-not-applies.true) in
    record {
      meets = λ k e. rw c.at.ensures (not-priced c.read_row-declared.ensures _ _ k e (values-long s) (modes-long s) c.applies.ensures no);
    }

applied : (c : Else-not-applies) → c.applies.result ≡ true
applied c = not-false _ (ap not c.if-not-applies.false)

pub put_strokes-count-requires : goal.put_strokes-count-requires
put_strokes-count-requires c =
    let x = c.args.state in
    let yes = applied (goal.at.put_strokes-count-requires c).Else-not-applies in
    (refl, refl, readable c.read_row-declared.ensures x.values x.modes (sym c.applies.ensures ∙ yes))

pub price_of-requires : goal.price_of-requires
price_of-requires c = let l = c.put_strokes-count.ensures.listed in (l.few, l.long, rw l.is l.within)

pub returns : goal.returns
returns c =
    let s = (goal.at.returns c).Start in
    let yes = applied (goal.at.returns c).Else-not-applies in
    let l = c.put_strokes-count.ensures.listed in
    record {
      meets = λ k e.
          priced-alone c.read_row-declared.ensures _ _ k e (values-long s) (modes-long s) c.applies.ensures yes l _ c.price_of.ensures.0;
    }
