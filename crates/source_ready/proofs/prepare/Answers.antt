-- `source_ready::prepare` meets its contract: the sums have their row, those of the actions are made, and the goal's come behind them. Assumes nothing.
use mathlib.Core.Path.{◌≡◌, refl, sym, ap, ◌∙◌, subst, subst⁻¹}
use native.Mathlib.Omega.{arith}
use Prim.Native.Nat.{ℕ, ◌≤◌}
use mathlib.Core.List.{List}
use lib.ListN.{length-set}
use lib.IntN.{ℤ}
use Rattle.integers.specs.Numbers.{Bytes}
use Rattle.model.specs.Decoding.{sum_conditions_of}
use Rattle.model.specs.ActionBytes.{edge_of, decode_action}
use Rattle.model.specs.Steps.{natural_at}
use Rattle.file_actions.specs.Places.{goal_from, goal_part}
use Rattle.file_actions.proofs.Accepted.{bytes-of}
use Rattle.source_step.specs.Sizes.{sums_row}
use Rattle.source_step.proofs.Judging.{few-actions}
use Rattle.source_sums.specs.Found.{SumsOf, SumsAsk}
use Rattle.source_ready.specs.Made.{Named, OwnBehind, OwnNamed}
use Rattle.source_ready.proofs.Preparing.{blank-numbers-long, blank-numbers-at, blank-but-sums, marks-put, sums-put}
use Rattle.source_ready.proofs.Preparing.{places_of, all_placed, goal-placed, goal-behind, goal-fits, over}
use Rattle.source_ready.proofs.prepare.Goals as goal
use Rattle.source_ready.proofs.prepare.Lts as lts
use Rattle.source_ready.proofs.prepare.Reads as reads
use Rattle.source_ready.proofs.prepare.Tie as tie

-- the bytes of the file, and how few actions it has
bytes_of : (a : lts.After-shared_slice_known tie.the-claims reads.Pre reads.Post) → Bytes a.args.file.now
bytes_of a = bytes-of a.args.file.now (λ i. omega (arith, a.shared_slice_known-1.given i))

few : (a : lts.After-shared_slice_known tie.the-claims reads.Pre reads.Post) → a.args.count ≤ 32
few a = few-actions a.args.file.now a.args.count (bytes_of a) a.requires.0

-- where nothing is called yet
abbrev start : lts.After-prepare_actions tie.the-claims reads.Pre reads.Post → lts.After-shared_slice_known tie.the-claims reads.Pre reads.Post
start p = p.before.before.before.before.before.before.before.before.before.before

-- the table of marks, and that of numbers, when the rows of the actions are made
abbrev marks_then : lts.After-prepare_actions tie.the-claims reads.Pre reads.Post → List (List ℕ)
marks_then p = p.prepare_actions-first.new.marks

abbrev numbers_then : lts.After-prepare_actions tie.the-claims reads.Pre reads.Post → List (List ℤ)
numbers_then p = p.prepare_actions-first.new.numbers

-- the place of the goal
goal-at : (p : lts.After-prepare_actions tie.the-claims reads.Pre reads.Post)
    → let s = (start p).before in natural_at p.action_places.new.places s.args.count ≡ edge_of s.args.file.now s.args.count
goal-at p =
    let a = start p in
    let s = a.before in
    ap (λ (l : List ℕ). natural_at l s.args.count) p.action_places.ensures
    ∙ goal-placed s.args.file.now (bytes_of a) s.args.count s.args.n s.args.lower.now s.args.upper.now s.args.m
    s.args.sizes.now s.requires.0 s.requires.1

-- its bytes
goal-is : (g : lts.After-goal_from tie.the-claims reads.Pre reads.Post)
    → let s = (start g.before.before.before.before.before.before.before.before).before in g.goal_from.result.now ≡ goal_part s.args.file.now s.args.count
goal-is g =
    let p = g.before.before.before.before.before.before.before.before in
    g.goal_from.ensures ∙ ap (goal_from (start p).before.args.file.now) (goal-at p)

-- its conditions on sums
named : (o : lts.After-name_own tie.the-claims reads.Pre reads.Post)
    → let s = (start o.before.before.before.before.before.before.before.before.before).before in
    OwnNamed (sum_conditions_of (decode_action (goal_part s.args.file.now s.args.count))) o.prepare_actions-first.result o.name_own.new.marks
    o.name_own.result
named o =
    subst (λ (z : List ℕ). OwnNamed (sum_conditions_of (decode_action z)) o.prepare_actions-first.result o.name_own.new.marks o.name_own.result)
    (goal-is o.before) o.name_own.ensures

pub find_sums-total-requires : goal.find_sums-total-requires
find_sums-total-requires c = (
  c.requires.0,
  λ k l. rw c.action_places.ensures
      (places_of c.args.file.now (bytes_of c.before.before.before.before.before.before) c.args.count c.args.n c.args.lower.now c.args.upper.now c.args.m
      c.args.sizes.now c.requires.0 c.requires.1 k l),
  blank-numbers-at c.requires.3 sums_row (omega arith),
)

pub prepare_actions-first-requires : goal.prepare_actions-first-requires
prepare_actions-first-requires c =
    let put = sums-put c.args.numbers.now c.find_sums-total.new.sums (blank-numbers-long c.requires.3) in (
      c.requires.0,
      c.requires.1,
      rw c.action_places.ensures
          (all_placed c.args.file.now (bytes_of c.before.before.before.before.before.before.before.before.before.before) c.args.count c.args.n c.args.lower.now c.args.upper.now c.args.m
          c.args.sizes.now c.requires.0 c.requires.1),
      blank-but-sums c.requires.2 c.requires.3 c.find_sums-total.new.sums,
      subst⁻¹ (λ (z : List ℤ). SumsOf c.args.file.now c.find_sums-total.result z) put c.find_sums-total.ensures.0,
      subst⁻¹ (λ (z : List ℤ). SumsAsk c.args.file.now c.args.count c.find_sums-total.result z) put c.find_sums-total.ensures.1,
    )

pub decode_goal-goal-requires : goal.decode_goal-goal-requires
decode_goal-goal-requires c =
    let p = c.before.before.before.before.before.before in
    (few (start p), goal-at p, refl, refl)

pub offset_bounds-marks-count : goal.offset_bounds-marks-count
offset_bounds-marks-count c = omega (arith, few (start c.before.before.before.before.before.before.before))

pub bounds-marks-count : goal.bounds-marks-count
bounds-marks-count c = omega (arith, few (start c.before.before.before.before.before.before.before), c.prepare_actions-first.ensures.blank.marks_long)

pub offset_bounds-places-count : goal.offset_bounds-places-count
offset_bounds-places-count c = omega (arith, few (start c.before.before.before.before.before.before.before.before))

pub bounds-places-count : goal.bounds-places-count
bounds-places-count c = omega (arith, few (start c.before.before.before.before.before.before.before.before))

pub name_own-requires : goal.name_own-requires
name_own-requires c =
    let a = start c.before.before.before.before.before.before.before.before.before in
    let s = a.before in (
      c.prepare_actions-first.ensures.blank.marks_blank s.args.count (omega arith) (omega (arith, few a)),
      subst⁻¹ (λ (z : List ℕ). OwnBehind (sum_conditions_of (decode_action z)) c.find_sums-total.result c.prepare_actions-first.result) (goal-is c.before)
          (goal-behind s.args.file.now (bytes_of a) s.args.count s.args.n s.args.lower.now s.args.upper.now s.args.m
          s.args.sizes.now s.requires.0 s.requires.1 c.prepare_actions-first.ensures),
    )

pub offset_bounds-marks-count-2 : goal.offset_bounds-marks-count-2
offset_bounds-marks-count-2 c = omega (arith, few (start c.before.before.before.before.before.before.before.before.before.before))

pub bounds-marks-count-2 : goal.bounds-marks-count-2
bounds-marks-count-2 c =
    let p = c.before.before.before.before.before.before.before.before.before.before in
    omega (arith, few (start p), c.prepare_actions-first.ensures.blank.marks_long, length-set (marks_then p) c.args.count c.name_own.new.marks)

pub offset_bounds-numbers-count : goal.offset_bounds-numbers-count
offset_bounds-numbers-count c = omega (arith, few (start c.before.before.before.before.before.before.before.before.before.before.before))

pub bounds-numbers-count : goal.bounds-numbers-count
bounds-numbers-count c = omega (arith, few (start c.before.before.before.before.before.before.before.before.before.before.before), c.prepare_actions-first.ensures.blank.numbers_long)

pub put_row-requires : goal.put_row-requires
put_row-requires c =
    let o = c.before.before.before.before.before in
    let p = c.before.before.before.before.before.before.before.before.before.before.before.before.before.before in
    let a = start p in
    let s = a.before in
    let blank = p.prepare_actions-first.ensures.blank in (
      subst⁻¹ Named (marks-put (marks_then p) s.args.count o.name_own.new.marks blank.marks_long (few a)) (named o).named,
      blank.numbers_blank s.args.count (omega arith) (omega (arith, few a)),
      goal-fits s.args.file.now (bytes_of a) s.args.count s.args.n s.args.lower.now s.args.upper.now s.args.m
          s.args.sizes.now s.requires.0 s.requires.1 _ _ c.decode_goal-goal.result (named o).own c.decode_goal-goal.ensures (named o).decoded,
    )

pub shape_of-numbers : goal.shape_of-numbers
shape_of-numbers c =
    let p = c.before.before.before.before.before.before.before.before.before.before.before.before.before.before.before in
    let s = (start p).before in
    length-set (numbers_then p) s.args.count c.put_row.new.numbers ∙ p.prepare_actions-first.ensures.blank.numbers_long
    ∙ sym (blank-numbers-long s.requires.3)

pub returns : goal.returns
returns c =
    let a = start c.before.before.before.before.before.before.before.before.before.before.before.before.before.before.before in
    let s = a.before in
    over s.args.file.now (bytes_of a) s.args.count s.args.n s.args.lower.now s.args.upper.now s.args.m s.args.sizes.now
    s.requires.0 s.requires.1 c.prepare_actions-first.ensures _ _ c.decode_goal-goal.result c.decode_goal-goal.ensures (named c.before.before.before.before.before.before) _ _ c.put_row.ensures
