-- Samples: the declaration of an enum with as many variants as the words ask for.
use Rattle.std.specs.Prelude.{◌≡◌, ◌==◌, if◌then◌else◌, ℕ, ◌%◌, ◌≤◌, ◌<◌, zero, suc, List, [], ◌∷◌, ◌++◌, map, length, get_or, String, string_bytes, codes}
use Rattle.std.specs.Fmt.{decimal}
use Rattle.std.specs.declared.alloc.Global.{Global}
use Rattle.dm_sample.specs.declared.words.TheConstants.{LARGEST_SAMPLE}

-- the fields of a variant, by what its number leaves on division by 3
abbrev pub fields : ℕ → List ℕ
fields left = if left == 0 then [] else (if left == 1 then codes "(T, u8)" else codes " { a: T, b: u8 }")

abbrev pub variant : ℕ → List ℕ
variant i = codes " V" ++ (decimal i ++ (fields (i % 3) ++ codes ","))

-- the variants with numbers below n
abbrev pub variants : ℕ → List ℕ
variants zero = []
variants (suc i) = variants i ++ variant i

abbrev pub sample_text : ℕ → List ℕ
sample_text n = codes "enum Sample<T> {" ++ (variants n ++ codes " }")

-- the word begins with a digit other than 0
pub record BeginsNumber (word : List ℕ) : Type 0 where
  pub some : 0 < length word
  pub low : 48 < get_or word 0 0
  pub high : get_or word 0 0 ≤ 57

-- the word is n, from 1 to the largest size, in decimal without a leading zero
pub record IsSize (word : List ℕ) (n : ℕ) : Type 0 where
  pub is : word ≡ decimal n
  pub least : 1 ≤ n
  pub most : n ≤ LARGEST_SAMPLE

-- the words that ask for a sample with n variants: `sample`, and n
pub record IsSample (words : List (String Global)) (n : ℕ) : Type 0 where
  pub size : List ℕ
  pub words_are : map string_bytes words ≡ codes "sample" ∷ size ∷ []
  pub is_size : IsSize size n
