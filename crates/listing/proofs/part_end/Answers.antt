-- `listing::part_end` meets its contract. Assumes nothing.
use mathlib.Core.Path.{ap, ◌∙◌}
use Prim.Native.Nat.{ℕ, ◌+◌}
use Rattle.listing.proofs.Parts.{end-is}
use Rattle.listing.proofs.part_end.Goals as goal

pub returns : goal.returns
returns c = ap (λ (lines : ℕ). c.args.next + lines) c.min.ensures ∙ end-is c.args.next c.args.most c.args.steps c.requires
