-- What is seen of an arena, written part by part.
use Rattle.std.proofs.Common.{◌≡◌, ℕ, List, ◌++◌, codes, decimal, append_assoc}
use Rattle.market_types.specs.declared.reply.ArenaView.{ArenaView}
use Rattle.market_texts.specs.Texts.{view_text, yes_no}
use Rattle.market_texts.specs.Written.{seats_text}

-- the parts in a row are the text
pub view-parts : (before a b c d e : List ℕ) (v : ArenaView) → a ≡ before ++ (codes "arena " ++ decimal v.arena) → b ≡ a ++ (codes " request " ++ decimal v.request) → c ≡ b ++ (codes " allot " ++ decimal v.allot) → d ≡ c ++ codes " top " → e ≡ d ++ yes_no v.top → e ++ seats_text v ≡ before ++ view_text v
view-parts before a b c d e v h i j k l = rw (l, k, j, i, h) (simp append_assoc)
