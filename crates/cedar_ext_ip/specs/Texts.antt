-- Which texts are IP addresses, and of which value (Cedar language reference, extension functions: ip).
use Rattle.std.specs.Prelude.{◌≡◌, ℕ, ◌+◌, ◌-◌, ◌*◌, ◌<◌, ◌≤◌, ◌⊎◌, List, [], ◌∷◌, ◌++◌, length, replicate, codes, decimal}
use Rattle.std.specs.Str.Parse.{IsNumeral, digits_value}
use Rattle.cedar_ext_ip.specs.declared.ip_version.IpVersion.{IpVersion}
use Rattle.cedar_ext_ip.specs.declared.ip_version.IpVersion.TheVariants.{V4, V6}
use Rattle.cedar_ext_ip.specs.Values.{IpValue, width_of}

-- The text is the address n of version 4: four decimal numbers from 0 to 255, without leading zeros, and with a point between
-- each two (Cedar language reference, extension functions: ip).
pub record IsFour (text : List ℕ) (n : ℕ) : Type 0 where
  pub a : ℕ
  pub b : ℕ
  pub c : ℕ
  pub d : ℕ
  pub fit : (a < 256) × (b < 256) × (c < 256) × (d < 256)
  pub text_is : text ≡ decimal a ++ codes "." ++ decimal b ++ codes "." ++ decimal c ++ codes "." ++ decimal d
  pub number_is : n ≡ ((a * 256 + b) * 256 + c) * 256 + d

-- The text is a group of the number n: one to four hexadecimal digits, in either case (Cedar language reference, extension
-- functions: ip).
abbrev pub IsGroup : List ℕ → ℕ → Type 0
IsGroup text n = IsNumeral 16 text × (length text ≤ 4) × (digits_value 16 text ≡ n)

-- The text has groups of these numbers, with a colon between each two (Cedar language reference, extension functions: ip).
abbrev pub IsGroups : List ℕ → List ℕ → Type 0
IsGroups text [] = text ≡ []
IsGroups text (n ∷ []) = IsGroup text n
IsGroups text (n ∷ m ∷ ns) = (group rest : List ℕ) × (text ≡ group ++ codes ":" ++ rest) × IsGroup group n × IsGroups rest (m ∷ ns)

-- The text has groups of these eight numbers, but for one or more zeros, in whose place it has `::` (Cedar language reference,
-- extension functions: ip).
pub record IsShortened (text numbers : List ℕ) : Type 0 where
  pub before_text : List ℕ
  pub after_text : List ℕ
  pub before : List ℕ
  pub after : List ℕ
  pub text_is : text ≡ before_text ++ codes "::" ++ after_text
  pub before_groups : IsGroups before_text before
  pub after_groups : IsGroups after_text after
  pub room : length before + length after < 8
  pub numbers_are : numbers ≡ before ++ replicate (8 - length before - length after) 0 ++ after

-- The text has eight groups of these numbers, all written or shortened (Cedar language reference, extension functions: ip).
abbrev pub IsEightGroups : List ℕ → List ℕ → Type 0
IsEightGroups text numbers = (IsGroups text numbers × (length numbers ≡ 8)) ⊎ IsShortened text numbers

-- The number of 16 bits a group, when the groups follow those of the number n (Cedar language reference, extension functions:
-- ip).
abbrev pub number_after : ℕ → List ℕ → ℕ
number_after n [] = n
number_after n (group ∷ groups) = number_after (n * 65536 + group) groups

-- The text is the address n of version 6: eight groups (Cedar language reference, extension functions: ip).
abbrev pub IsSix : List ℕ → ℕ → Type 0
IsSix text n = (numbers : List ℕ) × IsEightGroups text numbers × (n ≡ number_after 0 numbers)

-- The text is the address n of the version (Cedar language reference, extension functions: ip).
abbrev pub IsAddress : IpVersion → List ℕ → ℕ → Type 0
IsAddress V4 = IsFour
IsAddress V6 = IsSix

-- The text after an address of so many bits gives this prefix: no text gives all bits, and a slash with a decimal number
-- without leading zeros gives that number, which is at most the number of bits (Cedar language reference, extension functions:
-- ip).
abbrev pub IsPrefix : ℕ → List ℕ → ℕ → Type 0
IsPrefix width text n = ((text ≡ []) × (n ≡ width)) ⊎ ((text ≡ codes "/" ++ decimal n) × (n ≤ width))

-- The text is of the value: an address, and perhaps a slash and a prefix (Cedar language reference, extension functions: ip).
pub record IsIp (text : List ℕ) (ip : IpValue) : Type 0 where
  pub address_text : List ℕ
  pub prefix_text : List ℕ
  pub text_is : text ≡ address_text ++ prefix_text
  pub address_is : IsAddress ip.version address_text ip.address
  pub prefix_is : IsPrefix (width_of ip.version) prefix_text ip.prefix
