-- The small words that every definition of this repository is written in:
-- a choice, joined tests, walks over numbers, and a list of refusals.
-- Assumes nothing.
use Rattle.std.specs.Prelude.{ℕ, zero, suc, ◌+◌, Bool, true, false, List, [], ◌∷◌}

-- `pick t a b` is a where the test t holds, else b
unfoldable pub pick : {A : Type 0} → Bool → A → A → A
pick true a b = a
pick false a b = b

unfoldable pub both : Bool → Bool → Bool
both true b = b
both false b = false

unfoldable pub either : Bool → Bool → Bool
either true b = true
either false b = b

-- 1 where the test holds, else 0
unfoldable pub bit : Bool → ℕ
bit true = 1
bit false = 0

-- f holds at each of the n numbers from i on
unfoldable pub every : (ℕ → Bool) → ℕ → ℕ → Bool
every f zero i = true
every f (suc n) i = both (f i) (every f n (suc i))

-- at how many of the n numbers from i on f holds
unfoldable pub count : (ℕ → Bool) → ℕ → ℕ → ℕ
count f zero i = 0
count f (suc n) i = bit (f i) + count f n (suc i)

-- a, changed by f at each of the n numbers from i on, in order
unfoldable pub run : {A : Type 0} → (A → ℕ → A) → A → ℕ → ℕ → A
run f a zero i = a
run f a (suc n) i = run f (f a i) n (suc i)

-- x in front of l where the test holds
unfoldable pub keep : {A : Type 0} → Bool → A → List A → List A
keep true x l = x ∷ l
keep false x l = l

-- those of the n numbers from i on at which f holds, in order
unfoldable pub among : (ℕ → Bool) → ℕ → ℕ → List ℕ
among f zero i = []
among f (suc n) i = keep (f i) i (among f n (suc i))

-- a test and the number of the refusal that it stands for
pub record Test : Type 0 where
  pub holds : Bool
  pub number : ℕ

infixr 50 ◌⇒◌
-- `t ⇒ n`: where t holds the call is refused by n
abbrev pub ◌⇒◌ : Bool → ℕ → Test
t ⇒ n = record { holds = t; number = n }

-- the number of the first test that holds; 0 where none does, and the call is accepted
unfoldable pub first : List Test → ℕ
first [] = 0
first (t ∷ ts) = pick t.holds t.number (first ts)

-- the values of f at the n numbers from i on
unfoldable pub listed : {A : Type 0} → (ℕ → A) → ℕ → ℕ → List A
listed f zero i = []
listed f (suc n) i = f i ∷ listed f n (suc i)
