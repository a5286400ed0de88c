-- Bytes of rows.
-- Assumes nothing.
use mathlib.Core.Path.{◌≡◌, refl, sym, ap, ap₂, ◌∙◌}
use Prim.Native.Nat.{ℕ, zero, suc, ◌+◌, ◌%◌, ◌<◌, ◌≤◌}
use lib.Dec.{lit<}
use mathlib.Core.List.{List, [], ◌∷◌, ◌++◌, flat_map, append-nil}
use native.Mathlib.Omega.{arith}
use lib.IntN.{ℤ}
use Rattle.commands.specs.Table.{letter_a}
use Rattle.integers.specs.Numbers.{bytes_of, bits_of}
use Rattle.integers.specs.Relation.{Relation, below, at_most, at_least, above, equal, relation_number, relation_of}
use Rattle.commands.specs.Encoding.{encode}
use Rattle.commands.specs.declared.Command.TheVariants.{Condition, Add}
use Rattle.file_parts.specs.Layout.{MARKS}
use Rattle.file_parts.specs.Row.{PartsFit}
use Rattle.file_parts.specs.With.{condition}
use Rattle.lists.proofs.Each.{flat_map-nil, flat_map-cons, flat_map-append}
use Rattle.lists.proofs.Writing.{Left, start}
use Rattle.model.specs.Steps.{natural_at}
use Rattle.model.specs.Tasks.{variable, NumericCondition, RestrictedAction}
use Rattle.model.specs.FourRelations.{comparing, in_four_relations, all_in_four_relations}
use Rattle.lowering_rows.specs.Bytes.{mode_condition_bytes, condition_bytes, four_bytes, mode_effect_bytes, mode_part_bytes, addition_bytes, restricted_action_bytes, row_bytes, places_of}
use Rattle.lowering_rows.specs.declared.ModePart.{ModePart}
use Rattle.lowering_rows.specs.declared.ModePart.TheVariants.{Condition as ACondition, Effect as AnEffect}
use Rattle.lowering_rows.proofs.Parts.{action-parts}

-- before anything of a row is written
pub row-begun : (old : List ℕ) (at b : ℕ) (x : RestrictedAction)
    → Left old at (row_bytes b x) old at (bytes_of 1 b ∷ flat_map mode_condition_bytes x.mode_conditions ∷ flat_map condition_bytes x.conditions ∷ flat_map mode_effect_bytes x.mode_effects ∷ flat_map addition_bytes x.additions ∷ [])
row-begun old at b x = start old at refl

-- with byte A, the bytes of an action
pub action-row : (x : RestrictedAction) → row_bytes letter_a x ≡ restricted_action_bytes x
action-row x = sym (action-parts x)

mod-mod : (n : ℕ) → n % 256 ≡ n % 256 % 256
mod-mod n = omega arith

-- ---- a C in the four relations
comparison-coded : (v l : ℕ) (r : Relation) (z : ℤ) → l ≡ v % 256 → condition_bytes (comparing (variable v) r z) ≡ condition_bytes (comparing (variable l) r z)
comparison-coded v l r z e = rw e (ap (λ (x : ℕ). 67 ∷ x ∷ (bytes_of 1 (relation_number r) ++ (bytes_of 4 (bits_of 4 z) ++ []))) (mod-mod v))

-- what stands in a row, as its commands are written
pub four_coded : (v r : ℕ) (z : ℤ) (l : ℕ) → l ≡ v % 256 → four_bytes (condition v r z) ≡ four_bytes (condition l r z)
unfolding flat_map
four_coded v r z l e = by (relation_of r)
  where
    by : (r : Relation) → flat_map condition_bytes (in_four_relations (variable v) r z) ≡ flat_map condition_bytes (in_four_relations (variable l) r z)
    by below = ap (λ (b : List ℕ). b ++ []) (comparison-coded v l below z e)
    by at_most = ap (λ (b : List ℕ). b ++ []) (comparison-coded v l at_most z e)
    by at_least = ap (λ (b : List ℕ). b ++ []) (comparison-coded v l at_least z e)
    by above = ap (λ (b : List ℕ). b ++ []) (comparison-coded v l above z e)
    by equal = ap₂ (λ (a b : List ℕ). a ++ (b ++ [])) (comparison-coded v l at_least z e) (comparison-coded v l at_most z e)

-- one of the four is written as it is
pub four-plain : (v r : ℕ) (z : ℤ) (b : ℕ) → r < 4 → b ≡ bits_of 4 z → four_bytes (condition v r z) ≡ encode (Condition v r b)
unfolding flat_map
four-plain v zero z b h e = rw (e, append-nil (condition_bytes (condition v 0 z)))
four-plain v (suc zero) z b h e = rw (e, append-nil (condition_bytes (condition v 1 z)))
four-plain v (suc (suc zero)) z b h e = rw (e, append-nil (condition_bytes (condition v 2 z)))
four-plain v (suc (suc (suc zero))) z b h e = rw (e, append-nil (condition_bytes (condition v 3 z)))
four-plain v (suc (suc (suc (suc r)))) z b h e = absurd (omega arith)

-- equal is two
pub equal-begun : (old : List ℕ) (at v r : ℕ) (z : ℤ) (b : ℕ) → 4 ≤ r → b ≡ bits_of 4 z
    → Left old at (four_bytes (condition v r z)) old at (encode (Condition v 2 b) ∷ encode (Condition v 1 b) ∷ [])
unfolding flat_map
equal-begun old at v zero z b h e = absurd (omega arith)
equal-begun old at v (suc zero) z b h e = absurd (omega arith)
equal-begun old at v (suc (suc zero)) z b h e = absurd (omega arith)
equal-begun old at v (suc (suc (suc zero))) z b h e = absurd (omega arith)
equal-begun old at v (suc (suc (suc (suc r)))) z b h e = start old at (rw e)

-- all of a row
pub four-all : (cs : List (NumericCondition ℕ)) → flat_map condition_bytes (all_in_four_relations cs) ≡ flat_map four_bytes cs
four-all [] = flat_map-nil condition_bytes ∙ sym (flat_map-nil four_bytes)
four-all (c ∷ cs) =
    flat_map-append condition_bytes (in_four_relations c.measured c.relation c.constant) (all_in_four_relations cs)
    ∙ ap (λ (z : List ℕ). four_bytes c ++ z) (four-all cs)
    ∙ sym (flat_map-cons four_bytes c cs)

-- ---- the other parts
pub addition-coded : (v : ℕ) (z : ℤ) (l b : ℕ) → l ≡ v % 256 → b ≡ bits_of 4 z → addition_bytes (v, z) ≡ encode (Add l b)
addition-coded v z l b e g = rw (e, g) (ap (λ (x : ℕ). 43 ∷ x ∷ (bytes_of 4 (bits_of 4 z) ++ [])) (mod-mod v))

mode-condition-coded : (m v l : ℕ) → l ≡ m % 256 → mode_condition_bytes (m, v) ≡ mode_condition_bytes (l, v)
mode-condition-coded m v l e = rw e (ap (λ (x : ℕ). 80 ∷ x ∷ (bytes_of 2 v ++ [])) (mod-mod m))

mode-effect-coded : (m v l : ℕ) → l ≡ m % 256 → mode_effect_bytes (m, v) ≡ mode_effect_bytes (l, v)
mode-effect-coded m v l e = rw e (ap (λ (x : ℕ). 69 ∷ x ∷ (bytes_of 2 v ++ [])) (mod-mod m))

pub mode-part-coded : (part : ModePart) (m v l : ℕ) → l ≡ m % 256 → mode_part_bytes part (m, v) ≡ mode_part_bytes part (l, v)
mode-part-coded ACondition = mode-condition-coded
mode-part-coded AnEffect = mode-effect-coded

-- ---- the P or the E of a row that has room for them stand within its marks
pub record There (marks : List ℕ) (places : ℕ × ℕ × ℕ) : Type 0 where
  pub counted : places.0 < MARKS
  pub modes : places.1 + natural_at marks places.0 ≤ MARKS
  pub values : places.2 + natural_at marks places.0 ≤ MARKS

pub parts-there : {marks : List ℕ} → PartsFit 0 0 0 0 marks → (part : ModePart) → There marks (places_of part)
parts-there room ACondition = record { counted = lit< tt; modes = omega (arith, room.mode_conditions); values = omega (arith, room.mode_conditions) }
parts-there room AnEffect = record { counted = lit< tt; modes = omega (arith, room.mode_effects); values = omega (arith, room.mode_effects) }
