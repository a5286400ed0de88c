-- What holds of every element of a list: from one fact to another, over a list made element by element, and over one list behind another.
-- Assumes nothing.
use mathlib.Core.List.{List, [], ◌∷◌, ◌++◌, map}
use Rattle.integers.specs.All.{All}

pub all_map : {A : Type 0} (Q Q' : A → Type 0) → ((r : A) → Q r → Q' r) → (l : List A) → All Q l → All Q' l
all_map Q Q' f [] h = tt
all_map Q Q' f (x ∷ l) (h, hs) = (f x h, all_map Q Q' f l hs)

pub all_of_map : {A B : Type 0} (P : A → Type 0) (Q : B → Type 0) (f : A → B) → ((a : A) → P a → Q (f a)) → (xs : List A) → All P xs → All Q (map f xs)
all_of_map P Q f g [] h = tt
all_of_map P Q f g (x ∷ xs) (h, hs) = (g x h, all_of_map P Q f g xs hs)

pub all_app : {A : Type 0} (Q : A → Type 0) (l m : List A) → All Q l → All Q m → All Q (l ++ m)
all_app Q [] m h k = k
all_app Q (x ∷ l) m (h, hs) k = (h, all_app Q l m hs k)
