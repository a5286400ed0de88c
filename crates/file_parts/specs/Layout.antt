-- Where the numbers of an action's two parts rows stand, and for how many parts of each kind there is room: the numbers behind the names of the code.
--     marks     how many C it has, then their variables, then their relations; how many P, their modes, their values;
--               how many E, their modes, their values; how many +, their variables
--     numbers   the constants of the C, then the amounts of the +
-- Assumes nothing.
use Rattle.std.specs.Prelude.{ℕ}

-- ---- how long the two rows are
abbrev pub MARKS : ℕ
MARKS = 116

abbrev pub NUMBERS : ℕ
NUMBERS = 40

-- ---- how many parts of each kind there is room for: the limits of a restricted file, which are the wider ones
abbrev pub condition_room : ℕ
condition_room = 24

abbrev pub mode_condition_room : ℕ
mode_condition_room = 16

abbrev pub mode_effect_room : ℕ
mode_effect_room = 8

abbrev pub addition_room : ℕ
addition_room = 16

-- ---- in the marks: of each kind the count, and where its first part has each of its marks
abbrev pub condition_count : ℕ
condition_count = 0

abbrev pub condition_variable : ℕ
condition_variable = 1

abbrev pub condition_relation : ℕ
condition_relation = 25

abbrev pub mode_condition_count : ℕ
mode_condition_count = 49

abbrev pub mode_condition_mode : ℕ
mode_condition_mode = 50

abbrev pub mode_condition_value : ℕ
mode_condition_value = 66

abbrev pub mode_effect_count : ℕ
mode_effect_count = 82

abbrev pub mode_effect_mode : ℕ
mode_effect_mode = 83

abbrev pub mode_effect_value : ℕ
mode_effect_value = 91

abbrev pub addition_count : ℕ
addition_count = 99

abbrev pub addition_variable : ℕ
addition_variable = 100

-- ---- in the numbers: the constants stand at the front
abbrev pub addition_amount : ℕ
addition_amount = 24
