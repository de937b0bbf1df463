-- What holds of matches that clap has passed. No public clause has these words.
use Rattle.std.specs.Prelude.{◌≡◌, ◌⊎◌, ℕ, List, Some, codes, pos}
use Rattle.clap.specs.Words.{IsSignedIn, Row, Text, first_of}

-- the option has a word in these matches, which spells a number from 1 to high
pub record HasNumber (name : Text) (high : ℕ) (rows : List Row) : Type 0 where
  pub word : Text
  pub found : first_of name rows ≡ Some word
  pub within : IsSignedIn (pos 1) (pos high) word

-- each of the market's options has its number
pub record HasMarketNumbers (rows : List Row) : Type 0 where
  pub base : HasNumber (codes "base") 65536 rows
  pub hard : HasNumber (codes "hard") 65535 rows
  pub seats : HasNumber (codes "seats") 64 rows
  pub levels : HasNumber (codes "levels") 8 rows
  pub last : HasNumber (codes "last") 4294967294 rows

-- clap's subcommand is `run` or `explain`, with the numbers of its options
pub record NamesScript (found : Text × List Row) : Type 0 where
  pub name : (found.0 ≡ codes "run") ⊎ (found.0 ≡ codes "explain")
  pub numbers : HasMarketNumbers found.1

-- it is `drive`, with its number of workers
pub record NamesDrive (found : Text × List Row) : Type 0 where
  pub name : found.0 ≡ codes "drive"
  pub workers : HasNumber (codes "workers") 16 found.1

-- each number of `chart`
pub record HasChartNumbers (rows : List Row) : Type 0 where
  pub width : HasNumber (codes "width") 1792 rows
  pub from : HasNumber (codes "from") 4294967295 rows
  pub to : HasNumber (codes "to") 4294967295 rows

-- it is `chart`, with its numbers
pub record NamesChart (found : Text × List Row) : Type 0 where
  pub name : found.0 ≡ codes "chart"
  pub numbers : HasChartNumbers found.1

-- one of these, or `replay`
abbrev pub NamesSubcommand : Text × List Row → Type 0
NamesSubcommand found = NamesScript found ⊎ ((found.0 ≡ codes "replay") ⊎ (NamesDrive found ⊎ NamesChart found))
