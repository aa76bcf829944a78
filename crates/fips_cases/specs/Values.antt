-- What a value of a line stands for.
use Rattle.std.specs.Prelude.{◌≡◌, ℕ, ◌^◌, ◌&&◌, List, [], length, take, drop, ◌==◌, ◌≢◌, nat_lt, Option, is_some, IfSome}
use Rattle.digits.specs.Digits.{is_hex, bytes_of}
use Rattle.sha256.specs.Sha256 as Sha256

-- what follows a word on a line, nothing where the line begins otherwise
pub record Behind (word line r : List ℕ) : Type 0 where
  pub follows : take (length word) line ≡ word → r ≡ drop (length word) line
  pub nothing : (take (length word) line ≢ word) → r ≡ []

-- 32 bytes that digits spell
pub record Reads (digits : List ℕ) (r : Option (List ℕ)) : Type 0 where
  pub told : is_some r ≡ (length digits == 64 && is_hex digits)
  pub spelt : IfSome r (λ label. label ≡ bytes_of digits)

-- the SHA-256 of the message that digits spell
pub record Hashes (digits : List ℕ) (r : Option (List ℕ)) : Type 0 where
  pub told : is_some r ≡ (nat_lt (length digits) (2 ^ 61) && is_hex digits)
  pub hashed : IfSome r (λ label. label ≡ Sha256.label (bytes_of digits))
