-- What a file declares, stored from the front of lent arrays: one behind another, as far as there is room; the rest of the arrays is as it was.
-- Assumes nothing.
use Rattle.std.specs.Prelude.{◌≡◌, ℕ, min, ◌+◌, Bool, true, false, List, [], map, length, ℤ}
use Rattle.std.proofs.lemmas.List.Edits.{sets}
use Rattle.commands.specs.declared.Command.{Command}
use Rattle.model.specs.Tasks.{SourceVariable}
use Rattle.model.specs.Decoding.{variables_of, starts_of, modes_of}
use Rattle.file_declarations.specs.declared.Declared.{Declared}
use Rattle.file_declarations.specs.Declarations.{declarations}

-- ---- what commands declare, by the arrays that it goes to
abbrev pub lowers : List Command → List ℤ
lowers cs = map (λ (v : SourceVariable). v.lower) (variables_of cs)

abbrev pub uppers : List Command → List ℤ
uppers cs = map (λ (v : SourceVariable). v.upper) (variables_of cs)

-- the starts of variables: of V in a source file, of U in a restricted one
abbrev pub starts : Bool → List Command → List ℤ
starts false cs = map (λ (v : SourceVariable). v.start) (variables_of cs)
starts true cs = starts_of cs

abbrev pub mode_sizes : List Command → List ℕ
mode_sizes cs = map (λ (m : ℕ × ℕ). m.0) (modes_of cs)

abbrev pub mode_values : List Command → List ℕ
mode_values cs = map (λ (m : ℕ × ℕ). m.1) (modes_of cs)

-- ---- what is stored
-- an array of which the first n elements are in use: with xs behind them the first n' are. `sets` stores one by one from a place on, and a
-- store past the end changes nothing
pub record Column {A : Type 0} (old : List A) (n : ℕ) (xs : List A) (n' : ℕ) (after : List A) : Type 0 where
  pub count : n' ≡ min (length old) (n + length xs)
  pub is : after ≡ sets old n xs

-- what commands of a file declare, in arrays that hold n variables and m modes before, n' and m' after. A restricted file declares no bounds
pub record Stored (restricted : Bool) (cs : List Command) (n m : ℕ) (lower upper start : List ℤ) (sizes values : List ℕ)
    (n' m' : ℕ) (lower' upper' start' : List ℤ) (sizes' values' : List ℕ) : Type 0 where
  pub lowers_are : restricted ≡ false → Column lower n (lowers cs) n' lower'
  pub uppers_are : restricted ≡ false → Column upper n (uppers cs) n' upper'
  pub bounds_kept : restricted ≡ true → (lower' ≡ lower) × (upper' ≡ upper)
  pub starts_are : Column start n (starts restricted cs) n' start'
  pub sizes_are : Column sizes m (mode_sizes cs) m' sizes'
  pub values_are : Column values m (mode_values cs) m' values'

-- required of the arrays: as much room for the bounds of a source file's variables as for their starts
abbrev pub Lent : Bool → List ℤ → List ℤ → List ℤ → Type 0
Lent false lower upper start = (length lower ≡ length start) × (length upper ≡ length start)
Lent true lower upper start = Unit

-- ---- what the readers of a whole file ensure: of arrays that held lower, upper, .. they leave lower', upper', .., and they answer r
pub record SourceStored (file : List ℕ) (lower upper start : List ℤ) (sizes values : List ℕ) (r : Declared) (lower' upper' start' : List ℤ)
    (sizes' values' : List ℕ) : Type 0 where
  pub all : Stored false (declarations false file) 0 0 lower upper start sizes values r.variables r.modes lower' upper' start' sizes' values'

pub record RestrictedStored (file : List ℕ) (start : List ℤ) (sizes values : List ℕ) (r : Declared) (start' : List ℤ) (sizes' values' : List ℕ) : Type 0 where
  pub all : Stored true (declarations true file) 0 0 [] [] start sizes values r.variables r.modes [] [] start' sizes' values'
