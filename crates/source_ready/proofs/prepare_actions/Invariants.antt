-- `source_ready::prepare_actions` meets its contract: each turn makes the rows of one action more. Assumes nothing.
use mathlib.Core.Path.{◌≡◌}
use Prim.Native.Nat.{◌≤◌}
use lib.ListN.{length}
use Rattle.integers.specs.Numbers.{Bytes}
use Rattle.file_parts.specs.Layout.{MARKS, NUMBERS}
use Rattle.source_ready.specs.Made.{RowsMade}
use Rattle.source_ready.proofs.prepare_actions.Given as goal

abbrev pub invariant-loop-k : goal.invariant-loop-k
invariant-loop-k l = record {
  made : RowsMade l.file l.count l.n l.lower l.upper l.m l.sizes l.total l.k l.first l.marks l.numbers;
  parts_long : length l.parts ≡ MARKS;
  constants_long : length l.constants ≡ NUMBERS;
  bytes : Bytes l.file;
  few : l.count ≤ 32;
}
