-- Tokens and lines that are read into lent columns, behind what stands there already.
--   ReadTokens, NoTokens, tokens_read    an array of tokens: it is in the columns; there is none, or it does not fit
--   ReadLine, NoLine, line_read          a line's tokens, and the low part of its word and its address word
--   low_word l                           a line's word but for where its tokens end
-- o is what the definition gives; tk₀ and tx₀ are the columns of tokens and text at entry, of which nt words and nx bytes stand; tk and tx are the
-- columns at exit, of which n words and x bytes stand; rest is the text behind what was read.
-- Assumes nothing.
use Rattle.std.specs.Prelude.{if◌then◌else◌, ℕ, ◌+◌, ◌≤◌, ◌<◌, ◌≡◌, List, ◌++◌, length, take, Some, None, Option}
use Rattle.std.specs.Borrow.{Bor}
use Rattle.definitions.specs.Lists.{is_some, or_else}
use Rattle.definitions.specs.Model.{Token, Line, text}
use Rattle.definitions.specs.Columns.{token_words_from}
use Rattle.json_definitions.specs.Parser.{Got, got}
use Rattle.json_lines.specs.declared.tokens.Filled.{Filled}
use Rattle.json_lines.specs.declared.lines.Row.{Row}

pub record ReadTokens (o : Option (Got (List Token))) (tk₀ tx₀ : List ℕ) (nt nx : ℕ) (tk tx rest : List ℕ) (n x : ℕ) : Type 0 where
  pub ts : List Token
  pub is : o ≡ got ts rest
  pub count : n ≡ nt + length ts
  pub bytes : x ≡ nx + length (text ts)
  pub words : take n tk ≡ take nt tk₀ ++ token_words_from nx ts
  pub texts : take x tx ≡ take nx tx₀ ++ text ts
  pub room : (n ≤ length tk₀) × (x ≤ length tx₀)

pub record NoTokens (o : Option (Got (List Token))) (tk₀ tx₀ : List ℕ) (nt nx : ℕ) : Type 0 where
  pub never : (g : Got (List Token)) → o ≡ Some g → nt + length g.value ≤ length tk₀ → nx + length (text g.value) ≤ length tx₀ → ⊥

unfoldable pub tokens_read : Option (Got (List Token)) → List ℕ → List ℕ → Filled → List ℕ → List ℕ → Option (Filled × Bor (List ℕ)) → Type 0
tokens_read o tk₀ tx₀ from tk tx (Some (to, s)) = ReadTokens o tk₀ tx₀ from.tokens from.text tk tx s.now to.tokens to.text
tokens_read o tk₀ tx₀ from tk tx None = NoTokens o tk₀ tx₀ from.tokens from.text

abbrev pub low_word : Option ℕ → ℕ → ℕ
low_word a i = (if is_some a then 256 else 0) + i

pub record ReadLine (o : Option (Got Line)) (tk₀ tx₀ : List ℕ) (nt nx : ℕ) (tk tx rest : List ℕ) (n x w a : ℕ) : Type 0 where
  pub line : Line
  pub is : o ≡ got line rest
  pub count : n ≡ nt + length line.tokens
  pub bytes : x ≡ nx + length (text line.tokens)
  pub words : take n tk ≡ take nt tk₀ ++ token_words_from nx line.tokens
  pub texts : take x tx ≡ take nx tx₀ ++ text line.tokens
  pub room : (n ≤ length tk₀) × (x ≤ length tx₀)
  pub word : w ≡ low_word line.address line.indent
  pub small : w < 512
  pub address : a ≡ or_else line.address 0

pub record NoLine (o : Option (Got Line)) (tk₀ tx₀ : List ℕ) (nt nx : ℕ) : Type 0 where
  pub never : (g : Got Line) → o ≡ Some g → nt + length g.value.tokens ≤ length tk₀ → nx + length (text g.value.tokens) ≤ length tx₀ → ⊥

unfoldable pub line_read : Option (Got Line) → List ℕ → List ℕ → Filled → List ℕ → List ℕ → Option (Row × Bor (List ℕ)) → Type 0
line_read o tk₀ tx₀ from tk tx (Some (r, s)) = ReadLine o tk₀ tx₀ from.tokens from.text tk tx s.now r.filled.tokens r.filled.text r.low r.address
line_read o tk₀ tx₀ from tk tx None = NoLine o tk₀ tx₀ from.tokens from.text
