-- A row of marks that is narrowed by a mode condition asks what it asked before and that the condition holds; one that is marked by a mode effect
-- sets what it set before and then that mode.
-- Assumes nothing.
use mathlib.Core.Path.{◌≡◌, refl, sym, ap, ap₂, ◌∙◌}
use Prim.Native.Nat.{ℕ, ◌+◌, ◌*◌, ◌≤◌, ◌<◌}
use native.Mathlib.Nat.{mul-zero, mul-one}
use native.Mathlib.Omega.{arith}
use mathlib.Core.Logic.{◌≢◌}
use mathlib.Core.Bool.{Bool, true, false, cond, ◌&&◌}
use mathlib.Core.List.{List, [], ◌∷◌, ◌++◌}
use lib.Dec.{eqb, leb, ltb}
use lib.ListN.{length, length-take, take, drop, set, length-set}
use lib.Seq.{get_or-take, get_or-set_same, get_or-set_other, ext_get_or, length-take-le}
use borrow.Author.Tests.{leb-true, leb-false, ltb-true, ltb-false, eqb-true, eqb-false, le-leb, lt-leb, eq-eqb, ne_eqb}
use Rattle.integers.specs.All.{All}
use Rattle.lists.specs.Each.{tabulate}
use Rattle.lists.specs.Loops.{every}
use Rattle.lists.proofs.Each.{length-tabulate, get_or-tabulate}
use Rattle.model.specs.Steps.{natural_at, modes_hold, set_all}
use Rattle.model.specs.TaskOk.{ValuesIn}
use Rattle.source_step.specs.Layout.{MARKS}
use Rattle.source_step.specs.Parts.{modes_below}
use Rattle.source_step.proofs.Sound.{tabulate-same}
use Rattle.source_step.specs.Row.{modes_in}
use Rattle.source_ready.specs.Narrowed.{capped_mark, raised_mark, held, held_all, marked, marked_all, SizesFit, SizesPut, NoModes, ModesPut}
use Rattle.source_ready.proofs.Tests.{and-pairs, and-right-first, every-narrowed, tabulate-set, length-set_if, set_if-at, set_if-other}

-- ---- the lesser and the greater of two bounds
lesser-bound : (a b x : ℕ) → leb x (cond (ltb b a) b a) ≡ (leb x a && leb x b)
lesser-bound a b x = go (ltb b a) (leb x a) (leb x b) refl refl refl
  where
    go : (p q r : Bool) → ltb b a ≡ p → leb x a ≡ q → leb x b ≡ r → leb x (cond p b a) ≡ (q && r)
    go true true r e f g = g
    go true false r e f g = lt-leb x b (omega (arith, ltb-true b a e, leb-false x a f))
    go false true true e f g = f
    go false true false e f g = absurd (omega (arith, ltb-false b a e, leb-true x a f, leb-false x b g))
    go false false r e f g = f

greater-bound : (a b x : ℕ) → leb (cond (ltb a b) b a) x ≡ (leb a x && leb b x)
greater-bound a b x = go (ltb a b) (leb a x) (leb b x) refl refl refl
  where
    go : (p q r : Bool) → ltb a b ≡ p → leb a x ≡ q → leb b x ≡ r → leb (cond p b a) x ≡ (q && r)
    go true true r e f g = g
    go true false r e f g = lt-leb b x (omega (arith, ltb-true a b e, leb-false a x f))
    go false true true e f g = f
    go false true false e f g = absurd (omega (arith, ltb-false a b e, leb-true a x f, leb-false b x g))
    go false false r e f g = f

-- at least v and at most v
only-value : (x v : ℕ) → (leb v x && leb x v) ≡ eqb x v
only-value x v = go (leb v x) (leb x v) refl refl
  where
    go : (p q : Bool) → leb v x ≡ p → leb x v ≡ q → (p && q) ≡ eqb x v
    go true true e f = sym (eq-eqb x v (omega (arith, leb-true v x e, leb-true x v f)))
    go true false e f = sym (ne_eqb x v (λ q. omega (arith, leb-false x v f)))
    go false q e f = sym (ne_eqb x v (λ r. omega (arith, leb-false v x e)))

-- ---- one mode condition
capped-other : (l : List ℕ) (i z j : ℕ) → j ≢ i → natural_at (capped_mark l i z) j ≡ natural_at l j
unfolding capped_mark
capped-other l i z j h = set_if-other (ltb z (natural_at l i)) l i z j 0 h

raised-other : (l : List ℕ) (i z j : ℕ) → j ≢ i → natural_at (raised_mark l i z) j ≡ natural_at l j
unfolding raised_mark
raised-other l i z j h = set_if-other (ltb (natural_at l i) z) l i z j 0 h

capped-long : (l : List ℕ) (i z : ℕ) → length (capped_mark l i z) ≡ length l
unfolding capped_mark
capped-long l i z = length-set_if (ltb z (natural_at l i)) l i z

raised_long : (l : List ℕ) (i z : ℕ) → length (raised_mark l i z) ≡ length l
unfolding raised_mark
raised_long l i z = length-set_if (ltb (natural_at l i) z) l i z

capped-asks : (l : List ℕ) (i z x : ℕ) → i < length l → leb x (natural_at (capped_mark l i z) i) ≡ (leb x (natural_at l i) && leb x z)
unfolding capped_mark
capped-asks l i z x h = ap (leb x) (set_if-at (ltb z (natural_at l i)) l i z 0 h) ∙ lesser-bound (natural_at l i) z x

raised-asks : (l : List ℕ) (i z x : ℕ) → i < length l → leb (natural_at (raised_mark l i z) i) x ≡ (leb (natural_at l i) x && leb z x)
unfolding raised_mark
raised-asks l i z x h = ap (λ (a : ℕ). leb a x) (set_if-at (ltb (natural_at l i) z) l i z 0 h) ∙ greater-bound (natural_at l i) z x

held-long : (l : List ℕ) (i v : ℕ) → length (held l i v) ≡ length l
held-long l i v = capped-long (raised_mark l i v) (4 + i) v ∙ raised_long l i v

held-other : (l : List ℕ) (i v j : ℕ) → j ≢ i → j ≢ 4 + i → natural_at (held l i v) j ≡ natural_at l j
held-other l i v j p q = capped-other (raised_mark l i v) (4 + i) v j q ∙ raised-other l i v j p

-- what a row asks of mode i, with value x
abbrev asks : List ℕ → ℕ → ℕ → Bool
asks l i x = leb (natural_at l i) x && leb x (natural_at l (4 + i))

held_asks : (l : List ℕ) (i v x : ℕ) → length l ≡ MARKS → i < 4 → asks (held l i v) i x ≡ (asks l i x && eqb x v)
held_asks l i v x long h =
    let e : length (raised_mark l i v) ≡ length l = raised_long l i v in
    ap₂ ◌&&◌
    (ap (λ (a : ℕ). leb a x) (capped-other (raised_mark l i v) (4 + i) v i (λ q. omega arith)) ∙ raised-asks l i v x (omega arith))
    (capped-asks (raised_mark l i v) (4 + i) v x (omega arith) ∙ ap (λ (a : ℕ). leb x a && leb x v) (raised-other l i v (4 + i) (λ q. omega arith)))
    ∙ and-pairs (leb (natural_at l i) x) (leb v x) (leb x (natural_at l (4 + i))) (leb x v)
    ∙ ap (λ (b : Bool). asks l i x && b) (only-value x v)

module _ (m : ℕ) (few : m ≤ 4) where
  held-row : (l : List ℕ) (i v : ℕ) → length l ≡ MARKS → i < m → (x : List ℕ) → modes_in m (held l i v) x ≡ (modes_in m l x && eqb (natural_at (take m x) i) v)
  held-row l i v long h x =
      every-narrowed m i (λ j. asks l j (natural_at x j)) (λ j. asks (held l i v) j (natural_at x j)) (eqb (natural_at (take m x) i) v) h
      (held_asks l i v (natural_at x i) long (omega arith) ∙ ap (λ (y : ℕ). asks l i (natural_at x i) && eqb y v) (sym (get_or-take m x i 0 h)))
      (λ j k q. ap₂ (λ (a b : ℕ). leb a (natural_at x j) && leb (natural_at x j) b) (held-other l i v j q (λ e. omega arith)) (held-other l i v (4 + j) (λ e. omega arith) (λ e. q (omega arith))))

  -- all of them, in modes of which there are m
  all-held-row : (zs : List ℕ) → length zs ≤ m → (ps : List (ℕ × ℕ)) → ValuesIn zs ps → (l : List ℕ) → length l ≡ MARKS → (x : List ℕ) → modes_in m (held_all ps l) x ≡ (modes_in m l x && modes_hold ps (natural_at (take m x)))
  all-held-row zs short [] h l long x = sym (and-true (modes_in m l x))
    where
      and-true : (b : Bool) → (b && true) ≡ b
      and-true true = refl
      and-true false = refl
  all-held-row zs short (p ∷ ps) (h, hs) l long x =
      let d : p.0 < length zs = h.0 in
      all-held-row zs short ps hs (held l p.0 p.1) (held-long l p.0 p.1 ∙ long) x
      ∙ ap (λ (b : Bool). b && modes_hold ps (natural_at (take m x))) (held-row l p.0 p.1 long (omega arith) x)
      ∙ sym (and-right-first (modes_in m l x) (eqb (natural_at (take m x) p.0) p.1) (modes_hold ps (natural_at (take m x))))

-- a mode of which there is room in a row
abbrev pub Roomy : ℕ × ℕ → Type 0
Roomy e = e.0 < 4

all-held-long : (ps : List (ℕ × ℕ)) (l : List ℕ) → length (held_all ps l) ≡ length l
all-held-long [] l = refl
all-held-long (p ∷ ps) l = all-held-long ps (held l p.0 p.1) ∙ held-long l p.0 p.1

all-held-other : (ps : List (ℕ × ℕ)) → All Roomy ps → (l : List ℕ) (j : ℕ) → 8 ≤ j → natural_at (held_all ps l) j ≡ natural_at l j
all-held-other [] h l j k = refl
all-held-other (p ∷ ps) (h, hs) l j k = all-held-other ps hs (held l p.0 p.1) j k ∙ held-other l p.0 p.1 j (λ e. omega arith) (λ e. omega arith)

-- ---- one mode effect
marked_other : (l : List ℕ) (i v j : ℕ) → j ≢ 8 + i → j ≢ 12 + i → natural_at (marked l i v) j ≡ natural_at l j
marked_other l i v j p q = get_or-set_other (set l (8 + i) 0) (12 + i) j v 0 q ∙ get_or-set_other l (8 + i) j 0 0 p

marked-long : (l : List ℕ) (i v : ℕ) → length (marked l i v) ≡ length l
marked-long l i v = length-set (set l (8 + i) 0) (12 + i) v ∙ length-set l (8 + i) 0

-- what a row makes of mode i, with value y
abbrev makes : List ℕ → ℕ → ℕ → ℕ
makes l i y = y * natural_at l (8 + i) + natural_at l (12 + i)

module _ (l : List ℕ) (i v : ℕ) (long : length l ≡ MARKS) (h : i < 4) where
  marked-makes : (y : ℕ) → makes (marked l i v) i y ≡ v
  marked-makes y =
      let n : length (set l (8 + i) 0) ≡ length l = length-set l (8 + i) 0 in
      ap₂ (λ (a b : ℕ). y * a + b)
      (get_or-set_other (set l (8 + i) 0) (12 + i) (8 + i) v 0 (λ q. omega arith) ∙ get_or-set_same l (8 + i) 0 0 (omega arith))
      (get_or-set_same (set l (8 + i) 0) (12 + i) v 0 (omega arith))
      ∙ omega (arith, mul-zero y)

  marked-elsewhere : (j y : ℕ) → j < 4 → j ≢ i → makes (marked l i v) j y ≡ makes l j y
  marked-elsewhere j y k q = ap₂ (λ (a b : ℕ). y * a + b) (marked_other l i v (8 + j) (λ e. q (omega arith)) (λ e. omega arith)) (marked_other l i v (12 + j) (λ e. omega arith) (λ e. q (omega arith)))

all-marked-long : (es : List (ℕ × ℕ)) (l : List ℕ) → length (marked_all es l) ≡ length l
all-marked-long [] l = refl
all-marked-long (e ∷ es) l = all-marked-long es (marked l e.0 e.1) ∙ marked-long l e.0 e.1

all-marked-before : (es : List (ℕ × ℕ)) (l : List ℕ) (j : ℕ) → j < 8 → natural_at (marked_all es l) j ≡ natural_at l j
all-marked-before [] l j k = refl
all-marked-before (e ∷ es) l j k = all-marked-before es (marked l e.0 e.1) j k ∙ marked_other l e.0 e.1 j (λ q. omega arith) (λ q. omega arith)

all-marked-behind : (es : List (ℕ × ℕ)) → All Roomy es → (l : List ℕ) (j : ℕ) → 16 ≤ j → natural_at (marked_all es l) j ≡ natural_at l j
all-marked-behind [] h l j k = refl
all-marked-behind (e ∷ es) (h, hs) l j k = all-marked-behind es hs (marked l e.0 e.1) j k ∙ marked_other l e.0 e.1 j (λ q. omega arith) (λ q. omega arith)

-- the modes after all of them
all-marked-row : (m : ℕ) → m ≤ 4 → (es : List (ℕ × ℕ)) → All Roomy es → (l : List ℕ) → length l ≡ MARKS → (x : List ℕ)
    → tabulate m (λ j. makes (marked_all es l) j (natural_at x j)) ≡ set_all es (tabulate m (λ j. makes l j (natural_at x j)))
all-marked-row m few [] h l long x = refl
all-marked-row m few (e ∷ es) (h, hs) l long x =
    all-marked-row m few es hs (marked l e.0 e.1) (marked-long l e.0 e.1 ∙ long) x
    ∙ ap (set_all es) (tabulate-set m e.0 (λ j. makes l j (natural_at x j)) (λ j. makes (marked l e.0 e.1) j (natural_at x j)) e.1
    (marked-makes l e.0 e.1 long h (natural_at x e.0))
    (λ j k q. marked-elsewhere l e.0 e.1 long h j (natural_at x j) (omega arith) q))

-- values below s stay below s
abbrev Stays : ℕ → (ℕ → ℕ) → List ℕ → Type 0
Stays k s l = (i : ℕ) → i < k → (y : ℕ) → y < s i → makes l i y < s i

all-marked-stays : (k : ℕ) → k ≤ 4 → (s : ℕ → ℕ) (es : List (ℕ × ℕ)) → All Roomy es → All (λ (e : ℕ × ℕ). e.1 < s e.0) es → (l : List ℕ) → length l ≡ MARKS → Stays k s l → Stays k s (marked_all es l)
all-marked-stays k few s [] h b l long t = t
all-marked-stays k few s (e ∷ es) (h, hs) (b, bs) l long t =
    all-marked-stays k few s es hs bs (marked l e.0 e.1) (marked-long l e.0 e.1 ∙ long) (λ i q y r. go i q y r (eqb i e.0) refl)
  where
    go : (i : ℕ) → i < k → (y : ℕ) → y < s i → (p : Bool) → eqb i e.0 ≡ p → makes (marked l e.0 e.1) i y < s i
    go i q y r true f = let g : i ≡ e.0 = eqb-true i e.0 f in rw (g, marked-makes l e.0 e.1 long h y) b
    go i q y r false f = rw (marked-elsewhere l e.0 e.1 long h i y (omega arith) (eqb-false i e.0 f)) (t i q y r)

-- ---- the sizes of the task first
pub sizes_begin : (sizes marks : List ℕ) → length marks ≡ MARKS → SizesPut 0 sizes marks marks
sizes_begin sizes marks h = record { long = h; mosts = λ i l. absurd (omega arith); stay = λ i l. absurd (omega arith); leasts = λ i l. refl; others = λ i l k. refl; rest = λ j l. refl }

module _ (k : ℕ) (sizes marks₀ marks : List ℕ) (h : SizesPut k sizes marks₀ marks) (few : k < 4) (a : ℕ) (is_most : a + 1 ≡ natural_at sizes k) where
  stored_other : (j : ℕ) → j ≢ 4 + k → j ≢ 8 + k → natural_at (set (set marks (4 + k) a) (8 + k) 1) j ≡ natural_at marks j
  stored_other j p q = get_or-set_other (set marks (4 + k) a) (8 + k) j 1 0 q ∙ get_or-set_other marks (4 + k) j a 0 p

  pub sizes-more : SizesPut (k + 1) sizes marks₀ (set (set marks (4 + k) a) (8 + k) 1)
  sizes-more = record {
    long = length-set (set marks (4 + k) a) (8 + k) 1 ∙ length-set marks (4 + k) a ∙ h.long;
    mosts = λ i l. most i (ltb i k) l refl;
    stay = λ i l. stays i (ltb i k) l refl;
    leasts = λ i l. stored_other i (λ q. omega arith) (λ q. omega arith) ∙ h.leasts i l;
    others = λ i l g. stored_other (8 + i) (λ q. omega arith) (λ q. omega arith) ∙ h.others i (omega arith) g;
    rest = λ j l. stored_other j (λ q. omega arith) (λ q. omega arith) ∙ h.rest j l;
  }
    where
      most : (i : ℕ) (p : Bool) → i < k + 1 → ltb i k ≡ p → natural_at (set (set marks (4 + k) a) (8 + k) 1) (4 + i) + 1 ≡ natural_at sizes i
      most i true l e = let n : i < k = ltb-true i k e in ap (λ (z : ℕ). z + 1) (stored_other (4 + i) (λ q. omega arith) (λ q. omega arith)) ∙ h.mosts i n
      most i false l e =
          let n : k ≤ i = ltb-false i k e in
          let s : i ≡ k = omega arith in
          rw s (ap (λ (z : ℕ). z + 1) (get_or-set_other (set marks (4 + k) a) (8 + k) (4 + k) 1 0 (λ q. omega arith) ∙ get_or-set_same marks (4 + k) a 0 (omega (arith, h.long))) ∙ is_most)

      stays : (i : ℕ) (p : Bool) → i < k + 1 → ltb i k ≡ p → natural_at (set (set marks (4 + k) a) (8 + k) 1) (8 + i) ≡ 1
      stays i true l e = let n : i < k = ltb-true i k e in stored_other (8 + i) (λ q. omega arith) (λ q. omega arith) ∙ h.stay i n
      stays i false l e =
          let n : k ≤ i = ltb-false i k e in
          let s : i ≡ k = omega arith in
          rw s (get_or-set_same (set marks (4 + k) a) (8 + k) 1 0 (omega (arith, h.long, length-set marks (4 + k) a)))

below-size : (x most size : ℕ) → most + 1 ≡ size → (leb 0 x && leb x most) ≡ ltb x size
below-size x most size e = ap (λ (b : Bool). b && leb x most) (le-leb 0 x (omega arith)) ∙ go (ltb x size) refl
  where
    go : (p : Bool) → ltb x size ≡ p → leb x most ≡ p
    go true f = le-leb x most (omega (arith, ltb-true x size f))
    go false f = lt-leb x most (omega (arith, ltb-false x size f))

module _ (m : ℕ) (sizes marks₀ marks : List ℕ) (fit : SizesFit m sizes) (zero₀ : NoModes marks₀) (put : SizesPut m sizes marks₀ marks) where
  sizes-row : (x : List ℕ) → modes_in m marks x ≡ modes_below m sizes x
  sizes-row x =
      ap (every (λ b. b)) (tabulate-same m (λ i. asks marks i (natural_at x i)) (λ i. ltb (natural_at x i) (natural_at sizes i))
      (λ i l. let f = fit.few in
      ap (λ (a : ℕ). leb a (natural_at x i) && leb (natural_at x i) (natural_at marks (4 + i))) (put.leasts i (omega arith) ∙ zero₀ i (omega arith))
      ∙ below-size (natural_at x i) (natural_at marks (4 + i)) (natural_at sizes i) (put.mosts i l)))

  sizes-make : (i y : ℕ) → i < m → makes marks i y ≡ y
  sizes-make i y l =
      let f = fit.few in
      ap₂ (λ (a b : ℕ). y * a + b) (put.stay i l) (put.rest (12 + i) (omega arith) ∙ zero₀ (12 + i) (omega arith)) ∙ omega (arith, mul-one y)

  sizes-beyond : (i y : ℕ) → m ≤ i → i < 4 → makes marks i y ≡ 0
  sizes-beyond i y l h =
      ap₂ (λ (a b : ℕ). y * a + b) (put.others i l h ∙ zero₀ (8 + i) (omega arith)) (put.rest (12 + i) (omega arith) ∙ zero₀ (12 + i) (omega arith))
      ∙ omega (arith, mul-zero y)

-- the first m of a list, by number
front : (m : ℕ) (x : List ℕ) → m ≤ length x → tabulate m (λ j. natural_at x j) ≡ take m x
front m x h =
    ext_get_or 0 (tabulate m (λ j. natural_at x j)) (take m x) (length-tabulate m (λ j. natural_at x j) ∙ sym (length-take-le m x h))
    (λ i l. let k : i < m = omega (arith, length-tabulate m (λ j. natural_at x j), l) in get_or-tabulate m (λ j. natural_at x j) i 0 k ∙ sym (get_or-take m x i 0 k))

values-below : (m bound : ℕ) (sizes : List ℕ) → ((i : ℕ) → i < m → natural_at sizes i ≤ bound) → (es : List (ℕ × ℕ)) → ValuesIn (take m sizes) es
    → All (λ (e : ℕ × ℕ). e.1 < natural_at sizes e.0) es × All (λ (e : ℕ × ℕ). e.1 < bound) es
values-below m bound sizes b [] h = (tt, tt)
values-below m bound sizes b (e ∷ es) (h, hs) =
    let rest = values-below m bound sizes b es hs in
    let d : e.0 < m = omega (arith, h.0, length-take m sizes) in
    let v : e.1 < natural_at sizes e.0 = rw (get_or-take m sizes e.0 0 d) at h.1 in
    ((v, rest.0), (omega (arith, b e.0 d), rest.1))

-- THE LAW: the sizes, narrowed by every mode condition, and then marked by every mode effect
pub modes-put : (m : ℕ) (sizes marks₀ marks : List ℕ) (ps es : List (ℕ × ℕ)) → SizesFit m sizes → All Roomy ps → All Roomy es → SizesPut m sizes marks₀ marks → ModesPut m sizes ps es marks₀ (marked_all es (held_all ps marks))
modes-put m sizes marks₀ marks ps es fit rp re put = record {
  long = all-marked-long es (held_all ps marks) ∙ all-held-long ps marks ∙ put.long;
  rest = λ j l. all-marked-behind es re (held_all ps marks) j l ∙ all-held-other ps rp marks j (omega arith) ∙ put.rest j (omega arith);
  modes = λ z h x.
      ap (every (λ b. b)) (tabulate-same m (λ i. asks (marked_all es (held_all ps marks)) i (natural_at x i)) (λ i. asks (held_all ps marks) i (natural_at x i))
      (λ i l. let f = fit.few in ap₂ (λ (a b : ℕ). leb a (natural_at x i) && leb (natural_at x i) b) (all-marked-before es (held_all ps marks) i (omega arith)) (all-marked-before es (held_all ps marks) (4 + i) (omega arith))))
      ∙ all-held-row m fit.few (take m sizes) (omega (arith, length-take m sizes)) ps h marks put.long x
      ∙ ap (λ (b : Bool). b && modes_hold ps (natural_at (take m x))) (sizes-row m sizes marks₀ marks fit z put x);
  sets = λ z h x l.
      ap (λ (y : List ℕ). y ++ drop m x)
      (all-marked-row m fit.few es re (held_all ps marks) long₁ x
      ∙ ap (set_all es) (tabulate-same m (λ j. makes (held_all ps marks) j (natural_at x j)) (λ j. natural_at x j) (λ i k. made z i (natural_at x i) k) ∙ front m x l));
  stays = λ z h. all-marked-stays m fit.few (natural_at sizes) es re (values-below m 16 sizes fit.small es h).0 (held_all ps marks) long₁ (λ i l y k. rw (made z i y l) k);
  keeps = λ z h i l.
      let t = all-marked-stays 4 (omega arith) (λ j. 65536) es re (wider es (values-below m 16 sizes fit.small es h).1) (held_all ps marks) long₁ (λ j k y r. within z j k y r) i l 65535 (omega arith) in
      omega arith;
}
  where
    long₁ : length (held_all ps marks) ≡ MARKS
    long₁ = all-held-long ps marks ∙ put.long

    same : (i y : ℕ) → makes (held_all ps marks) i y ≡ makes marks i y
    same i y = ap₂ (λ (a b : ℕ). y * a + b) (all-held-other ps rp marks (8 + i) (omega arith)) (all-held-other ps rp marks (12 + i) (omega arith))

    made : NoModes marks₀ → (i y : ℕ) → i < m → makes (held_all ps marks) i y ≡ y
    made z i y l = same i y ∙ sizes-make m sizes marks₀ marks fit z put i y l

    within : NoModes marks₀ → (i : ℕ) → i < 4 → (y : ℕ) → y < 65536 → makes (held_all ps marks) i y < 65536
    within z i l y r = go (ltb i m) refl
      where
        go : (p : Bool) → ltb i m ≡ p → makes (held_all ps marks) i y < 65536
        go true e = rw (made z i y (ltb-true i m e)) r
        go false e = rw (same i y, sizes-beyond m sizes marks₀ marks fit z put i y (ltb-false i m e) l) (omega arith)

    wider : (es : List (ℕ × ℕ)) → All (λ (e : ℕ × ℕ). e.1 < 16) es → All (λ (e : ℕ × ℕ). e.1 < 65536) es
    wider [] h = tt
    wider (e ∷ es) (h, hs) = (omega arith, wider es hs)
