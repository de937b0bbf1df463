-- Texts in columns, and the lines of an explanation by what they tell (own).
use Rattle.std.specs.Prelude.{ℕ, ◌-◌, List, ◌++◌, length, replicate, Option, None, Some, option_map, codes, decimal}
use Rattle.market_types.specs.declared.reply.ArenaView.{ArenaView}
use Rattle.market_types.specs.declared.reply.LimitView.{LimitView}
use Rattle.market_texts.specs.Texts.{level_text, limit_text, yes_no}
use Rattle.explainer.specs.declared.line.CarryStep.{CarryStep}
use Rattle.explainer.specs.declared.line.LevelView.{LevelView}

-- so many spaces
abbrev pub spaces : ℕ → List ℕ
spaces count = replicate count 32

-- a text at the right end of so many places
abbrev pub right_in : ℕ → List ℕ → List ℕ
right_in places text = spaces (places - length text) ++ text

-- a text at the left end of so many places
abbrev pub left_in : ℕ → List ℕ → List ℕ
left_in places text = text ++ spaces (places - length text)

-- a number, or a dash for none
abbrev pub number_text : Option ℕ → List ℕ
number_text None = codes "-"
number_text (Some n) = decimal n

-- the first line, by the limits, what all arenas ask for, and how many workers may be allotted
abbrev pub market_line : LimitView → ℕ → ℕ → List ℕ
market_line limits demand workers =
    limit_text limits ++ (codes " demand " ++ (decimal demand ++ (codes " workers " ++ decimal workers)))

-- the line of a level in a market of so many
abbrev pub level_line : ℕ → LevelView → List ℕ
level_line levels v =
    codes "level " ++ (left_in 6 (level_text levels v.level)
    ++ (codes " demand " ++ (right_in 8 (decimal v.demand)
    ++ (codes " assigned " ++ (right_in 5 (decimal v.assigned)
    ++ (codes " left " ++ right_in 5 (decimal v.left)))))))

-- the part of an arena's line that tells whether it is top priority, and counts seats
abbrev pub seats_columns : ArenaView → List ℕ
seats_columns v =
    codes " top " ++ (left_in 3 (yes_no v.top)
    ++ (codes " active " ++ (right_in 5 (decimal v.active)
    ++ (codes " recall " ++ (right_in 5 (decimal v.recall)
    ++ (codes " hire " ++ right_in 5 (decimal v.hire)))))))

-- the part that tells how it comes by its workers, by its step, if it has one
abbrev pub share_columns : ArenaView → Option CarryStep → List ℕ
share_columns v step =
    codes "arena " ++ (right_in 7 (decimal v.arena)
    ++ (codes " request " ++ (right_in 5 (decimal v.request)
    ++ (codes " carry " ++ (right_in 8 (number_text (option_map (λ (c : CarryStep). c.carry) step))
    ++ (codes " product " ++ (right_in 10 (number_text (option_map (λ (c : CarryStep). c.product) step))
    ++ (codes " allot " ++ (right_in 5 (decimal v.allot)
    ++ (codes " rest " ++ right_in 8 (number_text (option_map (λ (c : CarryStep). c.rest) step))))))))))))

-- the line of an arena, by what is seen of it and by its step, if it has one
abbrev pub arena_line : ArenaView → Option CarryStep → List ℕ
arena_line v step = share_columns v step ++ seats_columns v
