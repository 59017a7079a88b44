-- Versions in words linked by place. Place 0 is none, and the places 1 to count are in use.
use Rattle.std.specs.Prelude.{◌≡◌, ℕ, zero, suc, ◌+◌, ◌-◌, ◌<◌, ◌≤◌, cond, List, [], ◌∷◌, length, ◌==◌, slice_index}
use Rattle.model.specs.Versions.{Version}

-- for each key the place of its latest version; for each place the place of the next older version, the number and the value
pub record Links : Type 0 where
  pub heads : List ℕ
  pub next : List ℕ
  pub number : List ℕ
  pub value : List ℕ

abbrev pub links : List ℕ → List ℕ → List ℕ → List ℕ → Links
links heads next number value = record { heads = heads; next = next; number = number; value = value }

abbrev pub version_at : Links → ℕ → Version
version_at w place = record { number = slice_index w.number place; value = slice_index w.value place }

-- the versions from a place on, along the links, at most so many
unfoldable pub walk : Links → ℕ → ℕ → List Version
walk w zero place = []
walk w (suc most) zero = []
walk w (suc most) (suc place) = version_at w (suc place) ∷ walk w most (slice_index w.next (suc place))

-- links lead to lower places, so from a place on there are at most so many
unfoldable pub chain : Links → ℕ → List Version
chain w place = walk w place place

-- the versions of a key, the latest first
unfoldable pub listed : Links → ℕ → List Version
listed w key = chain w (slice_index w.heads key)

-- the sum of f over the numbers below n
unfoldable pub sum_to : ℕ → (ℕ → ℕ) → ℕ
sum_to zero f = 0
sum_to (suc n) f = sum_to n f + f n

-- how many versions all keys have
unfoldable pub total : (ℕ → List Version) → ℕ
total f = sum_to 4096 (λ k. length (f k))

-- the words have places for so many versions
abbrev pub Fits : Links → ℕ → Type 0
Fits w room =
    (room ≤ 32768) × (0 < room → length w.heads ≡ 4096)
    × (room ≤ length w.next - 1) × (room ≤ length w.number - 1) × (room ≤ length w.value - 1)

-- each link of a place in use leads to a lower place
abbrev pub Falls : Links → ℕ → Type 0
Falls w count = (p : ℕ) → 0 < p → p ≤ count → slice_index w.next p < p

-- each key's first place is in use, or none
abbrev pub Tops : Links → ℕ → Type 0
Tops w count = (k : ℕ) → slice_index w.heads k ≤ count

-- what is always true of the words
abbrev pub Sound : Links → ℕ → ℕ → Type 0
Sound w count room = Fits w room × (count ≤ room) × Falls w count × Tops w count × (total (listed w) ≡ count)

-- one version more in front of a key's
abbrev pub added : ℕ → ℕ → ℕ → (ℕ → List Version) → ℕ → List Version
added key number value old k = cond (k == key) (record { number = number; value = value } ∷ old k) (old k)
