-- The marked cases of document 01's "Worked by hand", from the definitions, by computing.
-- Assumes nothing.
use mathlib.Core.Path.{refl}
use Rattle.integers.specs.All.{All}
use Rattle.commands.specs.Table.{size_of_byte}
use Rattle.commands.specs.Reading.{command_at}
use Rattle.model.specs.Rules.{tests_of, next_of, take_of}
use Rattle.model.specs.Reading.{verdict_of, commands_of, commands_along, verdict_along, remainders}
use Rattle.model.specs.Plans.{read_plan}
use Rattle.model.specs.Lowering.{encode_file}
use Rattle.model.specs.Judging.{judge, prices_from}
use Rattle.model.specs.Listing.{digits, decimal, decimal_signed, step_line, step_lines, listing}
use Rattle.model.specs.Worked.{Holds, marked_cases}

pub marked-cases-hold : All Holds marked_cases
unfolding remainders size_of_byte command_at tests_of next_of take_of verdict_along verdict_of commands_along commands_of read_plan encode_file judge prices_from digits decimal decimal_signed step_line step_lines listing
marked-cases-hold = (
  (refl, refl),
  ((refl, refl), ((refl, refl), ((refl, refl), ((refl, refl), (refl, (refl, (refl, (refl, (refl, (refl, (refl, (refl, (refl, tt))))))))))))),
)
