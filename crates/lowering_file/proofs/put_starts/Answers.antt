-- `lowering_file::put_starts` meets its contract: its parts are written one after another. Assumes nothing.
use mathlib.Core.List.{List}
use lib.IntN.{ℤ}
use lib.ListN.{take}
use Rattle.lists.proofs.Writing.{step, done, room}
use Rattle.model.specs.Sums.{sum_values}
use Rattle.lowering_sums.specs.Views.{sums_in}
use Rattle.lowering_file.specs.Parts.{holds_of}
use Rattle.lowering_file.proofs.File.{starts-begun}
use mathlib.Core.Path.{refl}
use Rattle.lowering_file.proofs.put_starts.Goals as goal
use Rattle.lowering_file.proofs.put_starts.Lts as lts
use Rattle.lowering_file.proofs.put_starts.Reads as reads
use Rattle.lowering_file.proofs.put_starts.Tie as tie

-- where the declared variables start, and the kept ones
abbrev declared : lts.Start tie.the-claims reads.Pre reads.Post tie.handed_clauses → List ℤ
declared s = take s.args.n s.args.starts.now

abbrev sums : lts.Start tie.the-claims reads.Pre reads.Post tie.handed_clauses → List ℤ
sums s = sum_values (sums_in s.args.sums s.args.weights.now) (take s.args.n s.args.starts.now)

pub put_declared_starts-helpers-requires : goal.put_declared_starts-helpers-requires
put_declared_starts-helpers-requires c =
    let s = c.before.before in
    record {
      n_bound = s.requires.n_bound;
      values_near = s.requires.values_near.0;
      room = room s.requires.room (starts-begun _ _ (declared s) (holds_of s.args.several) _ (sums s) refl);
    }

pub put_zeros-kept-requires : goal.put_zeros-kept-requires
put_zeros-kept-requires c =
    let s = c.before.before.before.before.before.before.before in
    let count = c.helper_count-count in
    let begun = starts-begun _ _ (declared s) (holds_of s.args.several) count.result (sums s) count.ensures in
    room s.requires.room (step begun c.put_declared_starts-helpers.ensures)

pub put_sum_starts-requires : goal.put_sum_starts-requires
put_sum_starts-requires c =
    let s = c.before.before.before.before.before.before.before.before.before.before.before in
    let count = c.helper_count-count in
    let begun = starts-begun _ _ (declared s) (holds_of s.args.several) count.result (sums s) count.ensures in
    let one = step begun c.put_declared_starts-helpers.ensures in
    record {
      n_bound = (s.requires.n_bound.0, s.requires.values_near.0, s.requires.values_near.1, s.requires.values_near.2);
      all = s.requires.all;
      room = room s.requires.room (step one c.put_zeros-kept.ensures);
    }

pub returns : goal.returns
returns c =
    let s = c.before.before.before.before.before.before.before.before.before.before.before.before.before.before.before in
    let count = c.helper_count-count in
    let begun = starts-begun _ _ (declared s) (holds_of s.args.several) count.result (sums s) count.ensures in
    let one = step begun c.put_declared_starts-helpers.ensures in
    let two = step one c.put_zeros-kept.ensures in
    done (step two c.put_sum_starts.ensures)
