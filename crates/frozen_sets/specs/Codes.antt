-- The number by which a key is put into a bucket.
use Rattle.std.specs.Prelude.{ℕ, ◌+◌, ◌*◌, ◌%◌, ◌^◌, List, fold, take, drop, length, min, bit_and}
use Rattle.std.specs.Int.{w32, cast_unsigned}
use Rattle.imm_base.specs.declared.val.Val.{Val}
use Rattle.imm_base.specs.declared.comparers.ValEq.{ValEq}
use Rattle.imm_base.specs.Order.{eq_hash}
use Rattle.plain_model.specs.Frozen.{text_bytes}
use Rattle.plain_model.specs.declared.plain.Strategy.{Strategy}
use Rattle.plain_model.specs.declared.plain.Strategy.TheVariants.{Linear, Length, Slice, Hash}
use Rattle.frozen_sets.specs.declared.buckets.Buckets.{Buckets}

abbrev pub next_code : ℕ → ℕ → ℕ
next_code code byte = (code * 31 + byte) % 2 ^ 32

abbrev pub bytes_code : List ℕ → ℕ
bytes_code bytes = fold next_code 0 bytes

-- so many bytes from the place `start` on
abbrev pub piece_of : ℕ → ℕ → List ℕ → List ℕ
piece_of start len bytes = take len (drop start bytes)

-- the length of a text where it is less
abbrev pub less_of : ℕ → Val → ℕ
less_of least key = min least (length (text_bytes key))

abbrev pub code_of : Strategy → ValEq → Val → ℕ
code_of Linear eq key = 0
code_of Length eq key = length (text_bytes key)
code_of (Slice start len) eq key = bytes_code (piece_of start len (text_bytes key))
code_of Hash eq key = cast_unsigned w32 (eq_hash eq key)

-- the low bits of the code, by which keys stand in a table
abbrev pub bucket_of : Buckets → Val → ℕ
bucket_of buckets key = bit_and (code_of buckets.strategy buckets.eq key) buckets.mask
