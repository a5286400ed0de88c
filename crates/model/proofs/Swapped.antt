-- The swap of specs/Swapped, from the definitions, by computing.
-- Assumes nothing.
use mathlib.Core.Path.{refl}
use Rattle.commands.specs.Table.{size_of_byte}
use Rattle.commands.specs.Reading.{command_at}
use Rattle.model.specs.Rules.{tests_of, next_of, take_of}
use Rattle.model.specs.Reading.{verdict_of, commands_of, commands_along, verdict_along, remainders}
use Rattle.model.specs.Plans.{read_plan}
use Rattle.model.specs.Lowering.{encode_file}
use Rattle.model.specs.Judging.{judge, prices_from}
use Rattle.model.specs.Swapped.{SwapWorks}

pub the-swap-works : SwapWorks
unfolding remainders size_of_byte command_at tests_of next_of take_of verdict_along verdict_of commands_along commands_of read_plan encode_file judge prices_from
the-swap-works = record { valid = refl; price = refl; expands = refl; valid_in_r = refl; projects = refl }
