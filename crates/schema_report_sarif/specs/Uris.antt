-- Paths of files as references, after RFC 3986.
use Rattle.std.specs.Prelude.{ℕ, Bool, ◌==◌, ◌&&◌, ◌||◌, if◌then◌else◌, nat_le, List, [], ◌∷◌}
use Rattle.std.specs.List.{flat_map}
use Rattle.percent_encoding.specs.Percent.{percent_encode_byte}

-- a letter or a digit of ASCII
abbrev pub is_alphanumeric : ℕ → Bool
is_alphanumeric b = (nat_le 48 b && nat_le b 57) || ((nat_le 65 b && nat_le b 90) || (nat_le 97 b && nat_le b 122))

-- a byte that stands for itself in a path: a letter, a digit, or one of `-./_~`
abbrev pub is_path_char : ℕ → Bool
is_path_char b = is_alphanumeric b || (nat_le 45 b && nat_le b 47 || (b == 95 || b == 126))

-- a byte of a path: as it is, or `%` and two hexadecimal digits
abbrev pub path_byte : ℕ → List ℕ
path_byte b = if is_path_char b then b ∷ [] else percent_encode_byte b

-- a path as a reference
abbrev pub path_uri : List ℕ → List ℕ
path_uri path = flat_map path_byte path
