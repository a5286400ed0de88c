-- Where the numbers of an action's two rows stand, and those of the row of a task's sums. The names are those of the code; sum_first is its
-- SUM_FIRST, and so with the others.
--     marks     of mode i: its least value at i, its most at TOP + i, 1 at KEEP + i where it stays and 0 where it is set, at PUT + i
--               what it is set to (0 where it stays); at MANY how many effects it has; of effect e, each BLOCK further on than of the one
--               before: its kind, its target, its operand, the count of its terms, their variables; at sum_first the number of its first
--               condition on a sum among those of the task, at sum_count how many it has
--     numbers   of variable i: its least value at i, its most at MOST + i; of effect e, each BLOCK further on: its constant, the weights of its
--               terms (0 where there is none), the bounds of its target
--     sums      of condition j on a sum, of the task: the weight of variable v at VARIABLES × j + v (0 where it has no such term), the least sum
--               of which it holds at sum_least + j, the most at sum_most + j
-- Assumes nothing.
use Rattle.std.specs.Prelude.{ℕ}

-- ---- how long the two rows are
abbrev pub MARKS : ℕ
MARKS = 43

abbrev pub NUMBERS : ℕ
NUMBERS = 40

-- how far the numbers of an effect stand behind those of the effect before, in either row
abbrev pub BLOCK : ℕ
BLOCK = 8

-- ---- in the marks
abbrev pub TOP : ℕ
TOP = 4

abbrev pub KEEP : ℕ
KEEP = 8

abbrev pub PUT : ℕ
PUT = 12

abbrev pub MANY : ℕ
MANY = 16

abbrev pub KIND : ℕ
KIND = 17

abbrev pub TARGET : ℕ
TARGET = 18

abbrev pub OPERAND : ℕ
OPERAND = 19

abbrev pub COUNT : ℕ
COUNT = 20

abbrev pub TERM : ℕ
TERM = 21

abbrev pub sum_first : ℕ
sum_first = 41

abbrev pub sum_count : ℕ
sum_count = 42

-- ---- in the numbers
abbrev pub MOST : ℕ
MOST = 8

abbrev pub CONSTANT : ℕ
CONSTANT = 16

abbrev pub WEIGHT : ℕ
WEIGHT = 17

abbrev pub LOWER : ℕ
LOWER = 21

abbrev pub UPPER : ℕ
UPPER = 22

-- ---- in the sums
abbrev pub sum_least : ℕ
sum_least = 32

abbrev pub sum_most : ℕ
sum_most = 36

-- ---- the kinds of effect; any number past these is a residue
abbrev pub ADD : ℕ
ADD = 0

abbrev pub LINEAR : ℕ
LINEAR = 1

abbrev pub QUOTIENT : ℕ
QUOTIENT = 2
