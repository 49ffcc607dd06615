-- A listing that is read into lent columns.
--   ReadListing, NoListing, listing_read    it is in the columns; there is none, or it does not fit
--   closed o                                what o gave, if nothing but white space is left behind it
-- o is what the definition gives; the columns have room for a lines, b addresses, c tokens and d bytes; at exit k lines, n tokens and x bytes stand in
-- the columns ln, ad, tk and tx; rest is the text behind what was read.
-- Assumes nothing.
use Rattle.std.specs.Prelude.{if◌then◌else◌, ℕ, ◌≤◌, ◌≡◌, List, length, take, Some, None, Option}
use Rattle.std.specs.Borrow.{Bor}
use Rattle.definitions.specs.Model.{Line}
use Rattle.definitions.specs.Columns.{all_tokens, line_words, address_words, token_words, text_bytes}
use Rattle.json_definitions.specs.Parser.{Got, got, skip_white_space}
use Rattle.json_definitions.specs.Reader.{is_empty}
use Rattle.json_listing.specs.declared.Counts.{Counts}

pub record ReadListing (o : Option (Got (List Line))) (a b c d : ℕ) (ln ad tk tx rest : List ℕ) (k n x : ℕ) : Type 0 where
  pub L : List Line
  pub is : o ≡ got L rest
  pub count : k ≡ length L
  pub tokens : n ≡ length (all_tokens L)
  pub bytes : x ≡ length (text_bytes L)
  pub lines : take k ln ≡ line_words L
  pub addresses : take k ad ≡ address_words L
  pub words : take n tk ≡ token_words L
  pub texts : take x tx ≡ text_bytes L
  pub room : (k ≤ a) × ((k ≤ b) × ((n ≤ c) × (x ≤ d)))

pub record NoListing (o : Option (Got (List Line))) (a b c d : ℕ) : Type 0 where
  pub never : (g : Got (List Line)) → o ≡ Some g
      → length g.value ≤ a → length g.value ≤ b → length (all_tokens g.value) ≤ c → length (text_bytes g.value) ≤ d → ⊥

unfoldable pub listing_read : Option (Got (List Line)) → ℕ → ℕ → ℕ → ℕ → List ℕ → List ℕ → List ℕ → List ℕ → Option (Counts × Bor (List ℕ)) → Type 0
listing_read o a b c d ln ad tk tx (Some (n, s)) = ReadListing o a b c d ln ad tk tx s.now n.lines n.tokens n.text
listing_read o a b c d ln ad tk tx None = NoListing o a b c d

unfoldable pub closed : Option (Got (List Line)) → Option (Got (List Line))
closed None = None
closed (Some g) = if is_empty (skip_white_space g.rest) then Some g else None
