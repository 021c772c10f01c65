-- Descriptor words: a size, an alignment and a tail in one number, of a format with a, t and s bits for alignment,
-- tail and size.
--     IsPowerOfTwo                an alignment that a word can tell by its logarithm
--     word_of, IsWord             the number that packs a size, an alignment and a tail; a number that is one
--     HasRoom, fits               the fields are wide enough for them; and whether they are
--     size_of_word, tail_of_word, what is read off a word
--     log_of_word
--     word_with_tail              the same block with another tail
use Rattle.std.specs.Prelude.{◌≡◌, ℕ, ◌+◌, ◌*◌, ◌/◌, ◌%◌, ◌^◌, ◌<◌, ◌&&◌, nat_lt, Bool}

-- an alignment is a power of two
abbrev pub IsPowerOfTwo : ℕ → Type 0
IsPowerOfTwo align = (k : ℕ) × (align ≡ 2 ^ k)

-- the word of a size, an alignment 2 ^ log and a tail
unfoldable pub word_of : (a t : ℕ) → (size log tail : ℕ) → ℕ
word_of a t size log tail = 1 + 2 * log + 2 ^ (1 + a) * tail + 2 ^ (1 + a + t) * size

-- the fields have room in a word
pub record HasRoom (a t s : ℕ) (size log tail : ℕ) : Type 0 where
  pub some : 0 < size
  pub log_fits : log < 2 ^ a
  pub tail_fits : tail < 2 ^ t
  pub size_fits : size < 2 ^ s

-- whether they have
abbrev pub fits : (a t s : ℕ) (size log tail : ℕ) → Bool
fits a t s size log tail = nat_lt 0 size && nat_lt log (2 ^ a) && nat_lt tail (2 ^ t) && nat_lt size (2 ^ s)

-- a word of the format: that of some fields that have room
pub record IsWord (a t s : ℕ) (word : ℕ) : Type 0 where
  pub size : ℕ
  pub log : ℕ
  pub tail : ℕ
  pub small : log < 64
  pub room : HasRoom a t s size log tail
  pub is : word ≡ word_of a t size log tail

-- the fields of a word, by division
abbrev pub size_of_word : (a t word : ℕ) → ℕ
size_of_word a t word = word / 2 ^ (1 + a + t)

abbrev pub tail_of_word : (a t word : ℕ) → ℕ
tail_of_word a t word = word / 2 ^ (1 + a) % 2 ^ t

abbrev pub log_of_word : (a word : ℕ) → ℕ
log_of_word a word = word / 2 % 2 ^ a

-- the word with the same size and alignment, and with another tail
abbrev pub word_with_tail : (a t word tail : ℕ) → ℕ
word_with_tail a t word tail = word_of a t (size_of_word a t word) (log_of_word a word) tail
