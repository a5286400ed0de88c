-- `lowering_stages::single_stage` meets its contract: the stages before Clear, and Clear and Move behind them. Assumes nothing.
use mathlib.Core.Path.{◌≡◌, sym, ap, ◌∙◌}
use mathlib.Core.List.{List, []}
use Prim.Native.Nat.{ℕ, ◌+◌, ◌-◌, ◌<◌}
use native.Mathlib.Omega.{arith}
use lib.ListN.{length, get_elem?}
use Rattle.model.specs.Steps.{target}
use Rattle.model.specs.Stages.{Stage, result_stages, result_in, set_stages, single_stages}
use Rattle.file_actions.specs.Views.{numeric_is}
use Rattle.lowering_stages.specs.Shapes.{lower_of, upper_of}
use Rattle.lowering_stages.proofs.Effects.{single-sets, result-at, result-past}
use Rattle.lowering_stages.proofs.single_stage.Goals as goal
use Rattle.lowering_stages.proofs.single_stage.Lts as lts
use Rattle.lowering_stages.proofs.single_stage.Reads as reads
use Rattle.lowering_stages.proofs.single_stage.Tie as tie

-- its stages before Clear stand in front
parted : (s : lts.Start tie.the-claims reads.Pre reads.Post) → single_stages (lower_of s.args.shape) (upper_of s.args.shape) (numeric_is s.args.place)
    ≡ result_stages (numeric_is s.args.place)
    (set_stages (lower_of s.args.shape) (upper_of s.args.shape) (result_in (numeric_is s.args.place)) (target (numeric_is s.args.place)) [])
parted s = single-sets (lower_of s.args.shape) (upper_of s.args.shape) (numeric_is s.args.place) s.args.j s.requires.3

pub returns-then-j-count : goal.returns-then-j-count
returns-then-j-count c =
    let x = numeric_is c.args.place in
    let below : c.args.j < length (result_stages x []) = omega (arith, c.if-j-count.true, c.result_count-count.ensures.0) in
    λ d g. c.result_stage.ensures d (sym (ap (λ (ds : List Stage). get_elem? ds c.args.j) (parted c.before.before.before) ∙ result-at x _ c.args.j below) ∙ g)

pub returns : goal.returns
returns c =
    let x = numeric_is c.args.place in
    let j = c.args.j in
    let n = c.result_count-count.result in
    let lower = lower_of c.args.shape in
    let upper = upper_of c.args.shape in
    let behind : j ≡ length (result_stages x []) + (j - n) = omega
    (arith, c.if-j-count.false, c.result_count-count.ensures.0) in
    λ d g.
    c.set_stage.ensures c.args.a (result_in x) c.result_in-v.ensures d
    (ap (λ (t : ℕ). get_elem? (set_stages lower upper (result_in x) t []) (j - n)) c.target_of-t.ensures
    ∙ sym (ap (λ (ds : List Stage). get_elem? ds j) (parted c.before.before.before.before.before) ∙ result-past x (set_stages lower upper (result_in x) (target x) []) j (j - n) behind)
    ∙ g)
