-- The walk over the declarations of a file, by the sizes of its commands: what the commands passed so far declare is stored, and those passed
-- and those from here on are the declarations of the file. One law for both kinds of file.
-- Assumes nothing.
use mathlib.Core.Path.{◌≡◌, refl, sym, ap, ◌∙◌, subst}
use Prim.Native.Nat.{ℕ, zero, suc, ◌+◌, ◌-◌, ◌≤◌, ◌<◌}
use native.Mathlib.Nat.{add-zero}
use native.Mathlib.Omega.{arith}
use mathlib.Core.Bool.{Bool, true, false, cond, false≢true}
use mathlib.Core.List.{List, [], ◌∷◌, ◌++◌, map, map-append, append-nil, append_assoc}
use lib.Dec.{lit<, eqb, leb}
use lib.IntN.{ℤ}
use lib.ListN.{length, length-drop, get_or, take, drop, get_or-eq_default}
use lib.Seq.{drop-drop, get_or-drop, take_all}
use borrow.Author.Tests.{ne_eqb}
use Rattle.answers.specs.declared.Reason.TheVariants.{CutShort}
use Rattle.commands.specs.Table.{rows, row_at, letter_v, letter_u, letter_m, size_of_byte, size_of_row}
use Rattle.commands.specs.Encoding.{byte_of}
use Rattle.commands.specs.Reading.{command_at, read_row}
use Rattle.commands.specs.declared.Command.{Command}
use Rattle.commands.specs.declared.Command.TheVariants.{Refused}
use Rattle.commands.proofs.Known.{read_as}
use Rattle.model.specs.Reading.{remainders}
use Rattle.model.specs.Rules.{is_one_of}
use Rattle.model.specs.Decoding.{those, start_of, variables_of, starts_of, modes_of}
use Rattle.file_declarations.specs.Declarations.{variable_letter, declaring, commands_with, declarations, letters_along}
use Rattle.file_declarations.specs.Stored.{lowers, uppers, starts, mode_sizes, mode_values, Column, Stored, Lent}
use Rattle.file_declarations.proofs.Column.{column-none, column-few, column-long, column-more}

-- what `&file[at..]` holds
abbrev pub from : List ℕ → ℕ → List ℕ
from file at = take (length file - at) (drop at file)

from-drop : (file : List ℕ) (at : ℕ) → from file at ≡ drop at file
from-drop file at = take_all (length file - at) (drop at file) (omega (arith, length-drop at file))

pub first : (file : List ℕ) (at : ℕ) → get_or (from file at) 0 0 ≡ get_or file at 0
first file at = rw from-drop (get_or-drop at file 0 0 ∙ ap (λ (i : ℕ). get_or file i 0) (add-zero at))

-- something remains
pub remains : (file : List ℕ) (at : ℕ) → at < length file → 0 < length (from file at)
remains file at h = rw from-drop (omega (arith, length-drop at file))

-- ---- what one command declares whose byte is known, and what commands declare one behind another
module _ (s : List ℕ) (there : 0 < length s) where
  -- a command of row i is whole, or it is cut short
  by_row : (P : Command → Type 0) (i : ℕ) → i < rows → get_or s 0 0 ≡ (row_at i).byte → P (read_row s i) → P (Refused CutShort) → P (command_at s)
  by_row P i few e whole short = rw (read_as s i few there e) (by (leb (size_of_row i) (length s)))
    where
      by : (b : Bool) → P (cond b (read_row s i) (Refused CutShort))
      by true = whole
      by false = short

  no-modes : (restricted : Bool) → get_or s 0 0 ≡ variable_letter restricted → modes_of (command_at s ∷ []) ≡ []
  no-modes false e = by_row (λ c. modes_of (c ∷ []) ≡ []) 0 (lit< tt) e refl refl
  no-modes true e = by_row (λ c. modes_of (c ∷ []) ≡ []) 1 (lit< tt) e refl refl

  module _ (e : get_or s 0 0 ≡ letter_m) where
    no-variables : variables_of (command_at s ∷ []) ≡ []
    no-variables = by_row (λ c. variables_of (c ∷ []) ≡ []) 2 (lit< tt) e refl refl

    no-starts : (restricted : Bool) → starts restricted (command_at s ∷ []) ≡ []
    no-starts false = ap (map (λ v. v.start)) no-variables
    no-starts true = by_row (λ c. starts_of (c ∷ []) ≡ []) 2 (lit< tt) e refl refl

those-append : (b : ℕ) (cs ds : List Command) → those b (cs ++ ds) ≡ those b cs ++ those b ds
those-append b [] ds = refl
those-append b (c ∷ cs) ds = by (eqb (byte_of c) b) (those-append b cs ds)
  where
    by : (t : Bool) → those b (cs ++ ds) ≡ those b cs ++ those b ds
        → cond t (c ∷ those b (cs ++ ds)) (those b (cs ++ ds)) ≡ cond t (c ∷ those b cs) (those b cs) ++ those b ds
    by true e = ap (λ (l : List Command). c ∷ l) e
    by false e = e

-- ---- one behind another: what the commands cs declare is stored, and then what ds declare
module _ (cs ds : List Command) where
  mapped : {X Y : Type 0} (f : X → Y) (g : Command → X) (b : ℕ) → map f (map g (those b cs)) ++ map f (map g (those b ds)) ≡ map f (map g (those b (cs ++ ds)))
  mapped f g b = sym (ap (λ (l : List Command). map f (map g l)) (those-append b cs ds) ∙ rw (map-append, map-append))

  starts-append : (restricted : Bool) → starts restricted cs ++ starts restricted ds ≡ starts restricted (cs ++ ds)
  starts-append false = mapped _ _ letter_v
  starts-append true = sym (ap (map start_of) (those-append letter_u cs ds) ∙ rw map-append)

  module _ {A : Type 0} {old : List A} {n : ℕ} {now : List A} {n' : ℕ} {after : List A} where
    both : {xs ys zs : List A} → xs ++ ys ≡ zs → Column old 0 xs n now → Column now n ys n' after → Column old 0 zs n' after
    both e c d = subst (λ (l : List A). Column old 0 l n' after) e (column-more c d)

  stored-both : {restricted : Bool} {lower₀ upper₀ start₀ : List ℤ} {sizes₀ values₀ : List ℕ} {n m : ℕ} {lower upper start : List ℤ} {sizes values : List ℕ}
      {n' m' : ℕ} {lower' upper' start' : List ℤ} {sizes' values' : List ℕ}
      → Stored restricted cs 0 0 lower₀ upper₀ start₀ sizes₀ values₀ n m lower upper start sizes values
      → Stored restricted ds n m lower upper start sizes values n' m' lower' upper' start' sizes' values'
      → Stored restricted (cs ++ ds) 0 0 lower₀ upper₀ start₀ sizes₀ values₀ n' m' lower' upper' start' sizes' values'
  stored-both {restricted} s t = record {
    lowers_are = λ e. both (mapped _ _ letter_v) (s.lowers_are e) (t.lowers_are e);
    uppers_are = λ e. both (mapped _ _ letter_v) (s.uppers_are e) (t.uppers_are e);
    bounds_kept = λ e. ((t.bounds_kept e).0 ∙ (s.bounds_kept e).0, (t.bounds_kept e).1 ∙ (s.bounds_kept e).1);
    starts_are = both (starts-append restricted) s.starts_are t.starts_are;
    sizes_are = both (mapped _ _ letter_m) s.sizes_are t.sizes_are;
    values_are = both (mapped _ _ letter_m) s.values_are t.values_are;
  }

-- ---- the commands from an offset on that declare
module _ (letters file : List ℕ) (at : ℕ) where
  nothing_left : (most : ℕ) → is_one_of (get_or (from file at) 0 0) letters ≡ false → commands_with letters most (drop at file) ≡ []
  unfolding remainders letters_along
  nothing_left zero h = refl
  nothing_left (suc most) h = rw (rw from-drop at h)

  one_left : (most size : ℕ) → length file < most + at → at < length file → is_one_of (get_or (from file at) 0 0) letters ≡ true
      → size ≡ size_of_byte (get_or (from file at) 0 0) → 0 < size
      → (more : ℕ) × (length file < more + (at + size))
      × (commands_with letters most (drop at file) ≡ command_at (from file at) ∷ commands_with letters more (drop (at + size) file))
  unfolding remainders letters_along
  one_left zero size enough h b is moves = absurd (omega arith)
  one_left (suc most) size enough h b is moves = (most, omega arith, rw (from-drop file at, rw from-drop at b, ← (rw from-drop at is), drop-drop size at file))

-- ---- the walk: the arrays lower₀, .. when it begins; lower, .. , holding n variables and m modes, when it has come to an offset
pub record Walk (restricted : Bool) (file : List ℕ) (lower₀ upper₀ start₀ : List ℤ) (sizes₀ values₀ : List ℕ)
    (n m : ℕ) (lower upper start : List ℤ) (sizes values : List ℕ) (at : ℕ) : Type 0 where
  passed : List Command
  most : ℕ
  enough : length file < most + at
  all : passed ++ commands_with (declaring restricted) most (drop at file) ≡ declarations restricted file
  pub stored : Stored restricted passed 0 0 lower₀ upper₀ start₀ sizes₀ values₀ n m lower upper start sizes values

module _ (restricted : Bool) (file : List ℕ) (lower₀ upper₀ start₀ : List ℤ) (sizes₀ values₀ : List ℕ) where
  pub walk_begins : Walk restricted file lower₀ upper₀ start₀ sizes₀ values₀ 0 0 lower₀ upper₀ start₀ sizes₀ values₀ 0
  walk_begins = record {
    passed = [];
    most = suc (length file);
    enough = omega arith;
    all = refl;
    stored = record {
      lowers_are = λ e. column-none (omega arith);
      uppers_are = λ e. column-none (omega arith);
      bounds_kept = λ e. (refl, refl);
      starts_are = none_yet restricted;
      sizes_are = column-none (omega arith);
      values_are = column-none (omega arith);
    };
  }
    where
      none_yet : (restricted : Bool) → Column start₀ 0 (starts restricted []) 0 start₀
      none_yet false = column-none (omega arith)
      none_yet true = column-none (omega arith)

module _ {restricted : Bool} {file : List ℕ} {lower₀ upper₀ start₀ : List ℤ} {sizes₀ values₀ : List ℕ} {n m : ℕ}
    {lower upper start : List ℤ} {sizes values : List ℕ} {at : ℕ}
    (w : Walk restricted file lower₀ upper₀ start₀ sizes₀ values₀ n m lower upper start sizes values at) where
  -- ---- the arrays are as long as they were
  pub lengths : (length lower ≡ length lower₀) × (length upper ≡ length upper₀) × (length start ≡ length start₀) × (length sizes ≡ length sizes₀)
      × (length values ≡ length values₀)
  lengths =
      let (l, u) = bounds restricted refl in
      (l, u, column-long w.stored.starts_are, column-long w.stored.sizes_are, column-long w.stored.values_are)
    where
      bounds : (b : Bool) → restricted ≡ b → (length lower ≡ length lower₀) × (length upper ≡ length upper₀)
      bounds false e = (column-long (w.stored.lowers_are e), column-long (w.stored.uppers_are e))
      bounds true e = (ap length (w.stored.bounds_kept e).0, ap length (w.stored.bounds_kept e).1)

  -- ---- what one that stores a declaration asks of them
  pub mode-room : length values₀ ≡ length sizes₀ → (length values ≡ length sizes) × (m ≤ length sizes)
  mode-room e = (lengths.4 ∙ e ∙ sym lengths.3, column-few w.stored.sizes_are)

  pub start-room : n ≤ length start
  start-room = column-few w.stored.starts_are

  pub variable-room : restricted ≡ false → Lent restricted lower₀ upper₀ start₀
      → (length lower ≡ length start) × (length upper ≡ length start) × (n ≤ length start)
  variable-room e lent = let (l, u) = rw e at lent in (lengths.0 ∙ l ∙ sym lengths.2, lengths.1 ∙ u ∙ sym lengths.2, start-room)

  -- ---- it ends with the file, and at a command that declares nothing
  abbrev AllStored : Type 0
  AllStored = Stored restricted (declarations restricted file) 0 0 lower₀ upper₀ start₀ sizes₀ values₀ n m lower upper start sizes values

  over : is_one_of (get_or (from file at) 0 0) (declaring restricted) ≡ false → AllStored
  over h =
      subst (λ (cs : List Command). Stored restricted cs 0 0 lower₀ upper₀ start₀ sizes₀ values₀ n m lower upper start sizes values)
      (sym (append-nil w.passed) ∙ ap (λ (cs : List Command). w.passed ++ cs) (sym (nothing_left (declaring restricted) file at w.most h)) ∙ w.all) w.stored

  pub walk_ends : length file ≤ at → AllStored
  walk_ends h = over (ap (λ (b : ℕ). is_one_of b (declaring restricted)) (first file at ∙ get_or-eq_default file 0 h) ∙ neither restricted)
    where
      neither : (r : Bool) → is_one_of 0 (letter_m ∷ cond r letter_u letter_v ∷ []) ≡ false
      neither true = refl
      neither false = refl

  pub walk-stops : (get_or (from file at) 0 0 ≡ letter_m → ⊥) → (get_or (from file at) 0 0 ≡ letter_v → restricted ≡ false → ⊥)
      → (get_or (from file at) 0 0 ≡ letter_u → restricted ≡ true → ⊥) → AllStored
  walk-stops k v u = over
      (rw (ne_eqb (get_or (from file at) 0 0) letter_m k, ne_eqb (get_or (from file at) 0 0) (variable_letter restricted) (neither restricted refl)))
    where
      neither : (r : Bool) → restricted ≡ r → get_or (from file at) 0 0 ≡ variable_letter r → ⊥
      neither false e b = v b e
      neither true e b = u b e

  -- ---- a command that declares
  module _ {size : ℕ} (h : at < length file) (is : size ≡ size_of_byte (get_or (from file at) 0 0)) (moves : 0 < size) where
    goes : {n' m' : ℕ} {lower' upper' start' : List ℤ} {sizes' values' : List ℕ} → is_one_of (get_or (from file at) 0 0) (declaring restricted) ≡ true
        → Stored restricted (command_at (from file at) ∷ []) n m lower upper start sizes values n' m' lower' upper' start' sizes' values'
        → Walk restricted file lower₀ upper₀ start₀ sizes₀ values₀ n' m' lower' upper' start' sizes' values' (at + size)
    goes b s =
        let (more, enough, e) = one_left (declaring restricted) file at w.most size w.enough h b is moves in
        record {
          passed = w.passed ++ command_at (from file at) ∷ [];
          most = more;
          enough = enough;
          all = append_assoc w.passed (command_at (from file at) ∷ []) _ ∙ ap (λ (cs : List Command). w.passed ++ cs) (sym e) ∙ w.all;
          stored = stored-both w.passed (command_at (from file at) ∷ []) w.stored s;
        }

    pub walk-mode : {m' : ℕ} {sizes' values' : List ℕ} → get_or (from file at) 0 0 ≡ letter_m
        → Column sizes m (mode_sizes (command_at (from file at) ∷ [])) m' sizes' × Column values m (mode_values (command_at (from file at) ∷ [])) m' values'
        → Walk restricted file lower₀ upper₀ start₀ sizes₀ values₀ n m' lower upper start sizes' values' (at + size)
    walk-mode b (x, y) =
        let there : 0 < length (from file at) = remains file at h in
        goes (ap (λ (x : ℕ). is_one_of x (declaring restricted)) b) (record {
          lowers_are = λ e. rw (no-variables (from file at) there b) (column-none (column-few (w.stored.lowers_are e)));
          uppers_are = λ e. rw (no-variables (from file at) there b) (column-none (column-few (w.stored.uppers_are e)));
          bounds_kept = λ e. (refl, refl);
          starts_are = rw (no-starts (from file at) there b restricted) (column-none (column-few w.stored.starts_are));
          sizes_are = x;
          values_are = y;
        })

    -- a variable of the kind of file: a V leaves bounds, a U leaves them as they were
    variable-put : {n' : ℕ} {lower' upper' start' : List ℤ} → get_or (from file at) 0 0 ≡ variable_letter restricted
        → (restricted ≡ false → Column lower n (lowers (command_at (from file at) ∷ [])) n' lower')
        → (restricted ≡ false → Column upper n (uppers (command_at (from file at) ∷ [])) n' upper')
        → (restricted ≡ true → (lower' ≡ lower) × (upper' ≡ upper)) → Column start n (starts restricted (command_at (from file at) ∷ [])) n' start'
        → Walk restricted file lower₀ upper₀ start₀ sizes₀ values₀ n' m lower' upper' start' sizes values (at + size)
    variable-put b l u k s =
        let e : modes_of (command_at (from file at) ∷ []) ≡ [] = no-modes (from file at) (remains file at h) restricted b in
        goes (rw b (is-letter restricted)) (record {
          lowers_are = l;
          uppers_are = u;
          bounds_kept = k;
          starts_are = s;
          sizes_are = rw e (column-none (column-few w.stored.sizes_are));
          values_are = rw e (column-none (column-few w.stored.values_are));
        })
      where
        is-letter : (r : Bool) → is_one_of (variable_letter r) (declaring r) ≡ true
        is-letter true = refl
        is-letter false = refl

    pub walk-variable : {n' : ℕ} {lower' upper' start' : List ℤ} → restricted ≡ false → get_or (from file at) 0 0 ≡ letter_v
        → Column lower n (lowers (command_at (from file at) ∷ [])) n' lower' × Column upper n (uppers (command_at (from file at) ∷ [])) n' upper'
        × Column start n (starts false (command_at (from file at) ∷ [])) n' start'
        → Walk restricted file lower₀ upper₀ start₀ sizes₀ values₀ n' m lower' upper' start' sizes values (at + size)
    walk-variable e b (l, u, s) = variable-put (rw e b) (λ z. l) (λ z. u) (λ z. absurd (false≢true (sym e ∙ z))) (rw e s)

    pub walk_start : {n' : ℕ} {start' : List ℤ} → restricted ≡ true → get_or (from file at) 0 0 ≡ letter_u
        → Column start n (starts true (command_at (from file at) ∷ [])) n' start'
        → Walk restricted file lower₀ upper₀ start₀ sizes₀ values₀ n' m lower upper start' sizes values (at + size)
    walk_start e b s = variable-put (rw e b) (λ z. absurd (false≢true (sym z ∙ e))) (λ z. absurd (false≢true (sym z ∙ e))) (λ z. (refl, refl)) (rw e s)
