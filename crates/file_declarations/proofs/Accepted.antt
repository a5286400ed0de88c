-- What the readers leave of an accepted file: the bounds, the start and the modes of its task. The declarations that they meet are all that the
-- file declares, and there are no more than there is room for.
-- Assumes nothing.
use mathlib.Core.Path.{◌≡◌, refl, sym, ap, ap₂, ◌∙◌}
use Prim.Native.Nat.{ℕ, ◌≤◌, ◌<◌}
use native.Mathlib.Omega.{arith}
use mathlib.Core.Bool.{true, false}
use mathlib.Core.List.{List, map}
use lib.ListN.{length, take, length-map}
use lib.Seq.{get_or-take}
use lib.IntN.{ℤ, pos}
use Rattle.answers.specs.Answer.{given}
use Rattle.model.specs.Tasks.{SourceVariable, SourceTask, RestrictedTask}
use Rattle.model.specs.Decoding.{read_source, read_restricted}
use Rattle.model.specs.Steps.{integer_at}
use Rattle.model.specs.TaskOk.{SourceTaskOk, RestrictedTaskOk}
use Rattle.model.proofs.AcceptedOk.{accepted-source-ok, accepted-restricted-ok}
use Rattle.file_declarations.specs.declared.Declared.{Declared}
use Rattle.file_declarations.specs.Declarations.{declarations}
use Rattle.file_declarations.specs.Stored.{starts, mode_values, Column, SourceStored, RestrictedStored}
use Rattle.file_declarations.specs.Holding.{SourceRoom, RestrictedRoom, HoldsSource, HoldsRestricted}
use Rattle.file_declarations.proofs.Declarations.{source-declares, restricted-declares}
use Rattle.file_declarations.proofs.Column.{Filled, column-filled, column-all}

-- the first so many, one by one
element : (n : ℕ) (l zs : List ℤ) → take n l ≡ zs → (j : ℕ) → j < n → integer_at l j ≡ integer_at zs j
element n l zs e j h = sym (get_or-take n l j (pos 0) h) ∙ ap (λ (k : List ℤ). integer_at k j) e

-- what is said of each of the things declared, all of which there is room for
module _ {X Y : Type 0} (f : X → Y) {old : List Y} {n : ℕ} {after : List Y} where
  each : {xs ys : List X} {room : ℕ} → Column old 0 (map f xs) n after → xs ≡ ys → length ys ≤ room → length old ≡ room → Filled n (map f ys) old after
  each {xs} {ys} c e few long = column-all c (ap (map f) e) (omega (arith, length-map ys f))

-- of any bytes: the starts and the modes' values, as many as there is room for, and the rest of the arrays as it was
pub record StartsHeld (n : ℕ) (zs start start' : List ℤ) : Type 0 where
  pub all_starts : Filled n (take (length start) zs) start start'

pub record ModesHeld (n : ℕ) (xs values values' : List ℕ) : Type 0 where
  pub all_values : Filled n (take (length values) xs) values values'

module _ {file : List ℕ} {lower upper start : List ℤ} {sizes values : List ℕ} {r : Declared} {lower' upper' start' : List ℤ} {sizes' values' : List ℕ}
    (room : SourceRoom lower upper start sizes values) (s : SourceStored file lower upper start sizes values r lower' upper' start' sizes' values') where
  pub source-held : (t : SourceTask) → read_source file ≡ given t → HoldsSource t r lower' upper' start' sizes' values'
  source-held t e =
      let ok : SourceTaskOk t = accepted-source-ok file t e in
      let (vs, ms) = source-declares file t e in
      let held_lowers = each (λ (v : SourceVariable). v.lower) (s.all.lowers_are refl) vs ok.variables_few room.lower_long in
      let held_uppers = each (λ (v : SourceVariable). v.upper) (s.all.uppers_are refl) vs ok.variables_few room.upper_long in
      let held_starts = each (λ (v : SourceVariable). v.start) s.all.starts_are vs ok.variables_few room.start_long in
      let held_sizes = each (λ (m : ℕ × ℕ). m.0) s.all.sizes_are ms ok.modes_few room.sizes_long in
      let held_values = each (λ (m : ℕ × ℕ). m.1) s.all.values_are ms ok.modes_few room.values_long in
      let variable_count : r.variables ≡ length t.variables = held_lowers.count ∙ length-map t.variables _ in
      let mode_count : r.modes ≡ length t.modes = held_sizes.count ∙ length-map t.modes _ in
      record {
        room = record {
          lower_long = held_lowers.long ∙ room.lower_long;
          upper_long = held_uppers.long ∙ room.upper_long;
          start_long = held_starts.long ∙ room.start_long;
          sizes_long = held_sizes.long ∙ room.sizes_long;
          values_long = held_values.long ∙ room.values_long;
        };
        variable_count = variable_count;
        variables_few = omega (arith, ok.variables_few, variable_count);
        mode_count = mode_count;
        modes_few = omega (arith, ok.modes_few, mode_count);
        lowers_are = held_lowers.front;
        uppers_are = held_uppers.front;
        lower_is = element r.variables lower' _ held_lowers.front;
        upper_is = element r.variables upper' _ held_uppers.front;
        sizes_are = held_sizes.front;
        start_is = ap₂ (λ (zs : List ℤ) (xs : List ℕ). record { values = zs; modes = xs }) held_starts.front held_values.front;
      }

  pub source-variables : StartsHeld r.variables (starts false (declarations false file)) start start'
  source-variables = record { all_starts = column-filled s.all.starts_are }

  pub source-modes : ModesHeld r.modes (mode_values (declarations false file)) values values'
  source-modes = record { all_values = column-filled s.all.values_are }

module _ {file : List ℕ} {start : List ℤ} {sizes values : List ℕ} {r : Declared} {start' : List ℤ} {sizes' values' : List ℕ}
    (room : RestrictedRoom start sizes values) (s : RestrictedStored file start sizes values r start' sizes' values') where
  pub restricted-held : (t : RestrictedTask) → read_restricted file ≡ given t → HoldsRestricted t r start' sizes' values'
  restricted-held t e =
      let ok : RestrictedTaskOk t = accepted-restricted-ok file t e in
      let (zs, ms) = restricted-declares file t e in
      let few : length t.starts ≤ length start = omega (arith, ok.starts_few, room.start_long) in
      let held_starts = column-all s.all.starts_are zs few in
      let held_sizes = each (λ (m : ℕ × ℕ). m.0) s.all.sizes_are ms ok.modes_few room.sizes_long in
      let held_values = each (λ (m : ℕ × ℕ). m.1) s.all.values_are ms ok.modes_few room.values_long in
      let mode_count : r.modes ≡ length t.modes = held_sizes.count ∙ length-map t.modes _ in
      record {
        room = record {
          start_long = held_starts.long ∙ room.start_long;
          sizes_long = held_sizes.long ∙ room.sizes_long;
          values_long = held_values.long ∙ room.values_long;
        };
        variable_count = held_starts.count;
        variables_few = omega (arith, ok.starts_few, held_starts.count);
        mode_count = mode_count;
        modes_few = omega (arith, ok.modes_few, mode_count);
        sizes_are = held_sizes.front;
        start_is = ap₂ (λ (zs : List ℤ) (xs : List ℕ). record { values = zs; modes = xs }) held_starts.front held_values.front;
      }

  pub restricted-starts : StartsHeld r.variables (starts true (declarations true file)) start start'
  restricted-starts = record { all_starts = column-filled s.all.starts_are }

  pub restricted-modes : ModesHeld r.modes (mode_values (declarations true file)) values values'
  restricted-modes = record { all_values = column-filled s.all.values_are }
