-- What the lent columns stand for.
--   listing_of l     the listing: its lines, without their addresses
--   tokens_of l      all tokens, those of each line behind those of the line before
-- Assumes nothing.
use Rattle.std.specs.Prelude.{List}
use Rattle.definitions.specs.Model.{Line, Token}
use Rattle.definitions.specs.Columns.{listing, token_list}
use Rattle.model.specs.declared.listing.Listing.{Listing}

abbrev pub listing_of : Listing → List Line
listing_of l = listing l.lines.now l.tokens.now l.text.now

abbrev pub tokens_of : Listing → List Token
tokens_of l = token_list l.tokens.now l.text.now
