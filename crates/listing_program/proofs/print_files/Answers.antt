-- `listing_program::print_files` meets its contract: each of the two lines where it comes, and else the listing. Assumes nothing.
use mathlib.Core.Path.{◌≡◌, subst}
use Rattle.std.specs.Io.KnownBytes.{Appends}
use Rattle.std.specs.Prelude.{OnOk}
use Rattle.model.specs.Listing.{no_file, listing_program_of}
use Rattle.listing_program.specs.Printed.{file_of}
use Rattle.listing_program.proofs.Printing.{prints-no-task, prints-no-plan, prints-too-large, prints-listing}
use Rattle.listing_program.proofs.print_files.Goals.{in_default-via-in-Some+in_default, in_default-via-in_default}
use Rattle.listing_program.proofs.print_files.Goals as goal

pub returns-in_default : goal.returns-in_default
returns-in_default g c =
    let a = g.W.Write.contents c.args.to.now in
    let b = g.W.Write.contents c.write_all.new.self in
    let e : no_file ≡ listing_program_of (file_of c.args.task) (file_of c.args.plan) = elim c.in_default.branch [
      | in_default-via-in-Some+in_default w ↦ prints-no-plan _ _ w.in_default.is-1
      | in_default-via-in_default w ↦ prints-no-task _ _ w.in_default.is-0
    ] in
    subst (λ text. OnOk c.write_all.result (Appends a b text)) e c.write_all.ensures.bytes

pub returns-then-task-plan : goal.returns-then-task-plan
returns-then-task-plan g c =
    let a = g.W.Write.contents c.args.to.now in
    let b = g.W.Write.contents c.write_all-then-task-plan.new.self in
    subst (λ text. OnOk c.write_all-then-task-plan.result (Appends a b text))
    (prints-too-large _ _ c.in-Some-Some.is-0 c.in-Some-Some.is-1 c.if-task-plan.true) c.write_all-then-task-plan.ensures.bytes

pub returns : goal.returns
returns g c =
    let a = g.W.Write.contents c.args.to.now in
    let b = g.W.Write.contents c.print_listing.new.to in
    subst (λ text. OnOk c.print_listing.result (Appends a b text))
    (prints-listing _ _ c.in-Some-Some.is-0 c.in-Some-Some.is-1 c.if-task-plan.false) c.print_listing.ensures
