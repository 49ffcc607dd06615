-- The theory of webs: theorems over the definitions, for any listing. From the bottom up:
--   Bools, ListLaws      tests and lists
--   Paths                `Reaches` and `Chain`
--   OneDefinition        the sweeps seen from one definition
--   Sweeping             sweeps end, and then the sets are what reaches
--   Merging              representatives are chains
--   Ranks, Numbering     web numbers: by chain, by first definition, without gap; the number of a read
--   Graph                the flow graph of a listing and its predecessor lists
--   FamilyWebs           the above of one family of a listing
--   Tokens, Lines        the number at a token; what a line defines, reads and names
--   Accepted             the numbers that the web call answers
--   TwoRuns              the two runs, over any numbers that fit
--   Demand               demand 3
--   Called               demand 3 of the words that the calls leave
--   Teeth                what demand 3 rules out
pub mod Bools
pub mod ListLaws
pub mod Paths
pub mod OneDefinition
pub mod Sweeping
pub mod Merging
pub mod Ranks
pub mod Numbering
pub mod Graph
pub mod FamilyWebs
pub mod Tokens
pub mod Lines
pub mod Accepted
pub mod TwoRuns
pub mod Demand
pub mod Called
pub mod Teeth
