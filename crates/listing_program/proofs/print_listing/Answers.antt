-- `listing_program::print_listing` meets its contract: all of the listing is left, and what is left is written. Assumes nothing.
use mathlib.Core.Path.{subst}
use Rattle.std.specs.Io.KnownBytes.{Appends}
use Rattle.std.specs.Prelude.{OnOk}
use Rattle.listing_program.proofs.print_listing.Goals as goal

pub returns : goal.returns
returns g c =
    let a = g.W.Write.contents c.args.to.now in
    let b = g.W.Write.contents c.print_rest.new.to in
    subst (λ text. OnOk c.print_rest.result (Appends a b text)) c.begin-rest.ensures.left c.print_rest.ensures
