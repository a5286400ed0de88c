-- The numeric effects and the conditions on sums of a source action while its commands are read: as many as there is room for, an L or a K with the
-- T's directly behind it.
-- Assumes nothing.
use Rattle.std.specs.Prelude.{◌≡◌, ℕ, ◌+◌, ◌≤◌, cond, List, [], ◌∷◌, map, ltb, ℤ, pos, take, set, replicate, Option, Some, None, IfSome}
use Rattle.integers.specs.All.{All}
use Rattle.commands.specs.declared.Command.{Command}
use Rattle.commands.specs.declared.Command.TheVariants.{Variable, Start, Mode, Action, Condition, ModeCondition, ModeEffect, Add as AddCommand}
use Rattle.commands.specs.declared.Command.TheVariants.{Linear as LinearCommand, Term as TermCommand, Quotient as QuotientCommand}
use Rattle.commands.specs.declared.Command.TheVariants.{Residue as ResidueCommand, Goal, End, Sum, Refused}
use Rattle.model.specs.Tasks.{Effect, add_effect, linear_effect, quotient_effect, residue_effect}
use Rattle.model.specs.Rules.{constant}
use Rattle.model.specs.Decoding.{terms_of}
use Rattle.file_actions.specs.declared.Term.{Term}
use Rattle.file_actions.specs.declared.Terms.{Terms}
use Rattle.file_actions.specs.declared.Effect.{Effect as DecodedEffect}
use Rattle.file_actions.specs.declared.Effect.TheVariants.{None as NoEffect}
use Rattle.file_actions.specs.declared.NumericEffect.{NumericEffect}
use Rattle.file_actions.specs.declared.Effects.{Effects}
use Rattle.file_actions.specs.declared.SumCondition.{SumCondition}
use Rattle.file_actions.specs.declared.SumConditions.{SumConditions}
use Rattle.file_actions.specs.Taking.{CommandsLeft}
use Rattle.file_actions.specs.Views.{effect_room, sum_room, term_room, terms_is, numeric_is, fitting_effect}

-- ---- terms
abbrev pub term : ℕ → ℤ → Term
term v w = record { variable = v; weight = w }

abbrev pub no_terms : Terms
no_terms = record { count = 0; places = replicate term_room (term 0 (pos 0)) }

-- a term behind the others, where there is room
abbrev pub with_term : Terms → ℕ → ℤ → Terms
with_term ts v w = cond (ltb ts.count term_room) (record { count = ts.count + 1; places = set ts.places ts.count (term v w) }) ts

-- the T's that stand from an offset on, as many as there is room for
pub record TermsRead (s : List ℕ) (at : ℕ) (r : Terms) : Type 0 where
  pub few : r.count ≤ term_room
  pub are : (left : List Command) → CommandsLeft s at left → terms_is r.count r.places ≡ take term_room (terms_of left)

-- ---- effects
abbrev pub with_terms : DecodedEffect → Terms → NumericEffect
with_terms e ts = record { effect = e; term_count = ts.count; terms = ts.places }

abbrev pub no_effect : NumericEffect
no_effect = with_terms NoEffect no_terms

abbrev pub no_effects : Effects
no_effects = record { count = 0; places = replicate effect_room no_effect }

-- what is given: none or one
abbrev pub given_is : Option NumericEffect → List Effect
given_is None = []
given_is (Some place) = numeric_is place ∷ []

-- the effect that a command gives, an L with these terms
abbrev pub effect_in : Command → List (ℕ × ℤ) → List Effect
effect_in (AddCommand t k) terms = add_effect t (constant k) ∷ []
effect_in (LinearCommand t k) terms = linear_effect t (constant k) terms ∷ []
effect_in (QuotientCommand t y k) terms = quotient_effect t y (constant k) ∷ []
effect_in (ResidueCommand t y k) terms = residue_effect t y (constant k) ∷ []
effect_in (TermCommand v k) terms = []
effect_in (Variable lower upper start) terms = []
effect_in (Start start) terms = []
effect_in (Mode size start) terms = []
effect_in Action terms = []
effect_in (Condition v r k) terms = []
effect_in (ModeCondition m x) terms = []
effect_in (ModeEffect m x) terms = []
effect_in Goal terms = []
effect_in End terms = []
effect_in (Sum r k) terms = []
effect_in (Refused reason) terms = []

-- none has more terms than there is room for
abbrev pub FewTerms : Effects → Type 0
FewTerms r = All (λ (e : NumericEffect). e.term_count ≤ term_room) r.places

-- r is the effect that a command gives, behind which the commands from an offset on stand
pub record EffectGiven (s : List ℕ) (behind : ℕ) (c : Command) (r : Option NumericEffect) : Type 0 where
  pub terms_few : IfSome r (λ place. place.term_count ≤ term_room)
  pub are : (left : List Command) → CommandsLeft s behind left → given_is r ≡ map fitting_effect (effect_in c (terms_of left))

-- ---- conditions on sums
abbrev pub sum_condition : ℕ → ℤ → Terms → SumCondition
sum_condition r k ts = record { relation = r; constant = k; term_count = ts.count; terms = ts.places }

abbrev pub no_sums : SumConditions
no_sums = record { count = 0; places = replicate sum_room (sum_condition 0 (pos 0) no_terms) }

-- one behind the others, where there is room
abbrev pub with_sum : SumConditions → ℕ → ℤ → Terms → SumConditions
with_sum s r k ts = cond (ltb s.count sum_room) (record { count = s.count + 1; places = set s.places s.count (sum_condition r k ts) }) s
