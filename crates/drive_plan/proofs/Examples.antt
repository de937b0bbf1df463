-- Worked examples of what tasks are worth, what lines say, and which text is which plan.
use Rattle.std.proofs.Common.{◌≡◌, ℕ, List, [], ◌∷◌, ◌++◌, Some, None, Ok, Err, refl, codes}
use Rattle.std.specs.Fmt.{digits}
use Rattle.market_texts.specs.Reading.{level, number}
use Rattle.line_engine.specs.Lines.{ended_lines, unfinished_line}
use Rattle.plan_jobs.specs.declared.task.Task.TheVariants.{Sum, Digits}
use Rattle.drive_plan.specs.declared.line.PlanLine.TheVariants.{Market, Arena, Job}
use Rattle.drive_plan.specs.declared.reader.PlanFault.TheVariants.{BadPlan}
use Rattle.plan_jobs.specs.Values.{value_of}
use Rattle.drive_plan.specs.Reading.{line_of, long_number}
use Rattle.drive_plan.specs.Format.{plan_of}

sum_of_ten : value_of (Sum 10) ≡ 55
sum_of_ten = refl

digits_of_9081 : value_of (Digits 9081) ≡ 18
unfolding digits
digits_of_9081 = refl

market_of_three : line_of 3 0 (codes "market 8 64") ≡ Some (Market 8 64 3)
unfolding line_of number
market_of_three = refl

market_of_five : line_of 3 0 (codes "market 8 64 5") ≡ Some (Market 8 64 5)
unfolding line_of number
market_of_five = refl

arena_at_low : line_of 3 0 (codes "arena 8 1 low 1 0") ≡ Some (Arena (record { slots = 8; reserved = 1; level = 3; wanted = 1; mandatory = 0 }))
unfolding line_of number level
arena_at_low = refl

level_above : line_of 3 0 (codes "arena 8 1 4 1 0") ≡ None
unfolding line_of number level
level_above = refl

long_digits : line_of 3 2 (codes "job 2 digits 18446744073709551615") ≡ Some (Job (record { arena = 2; task = Digits 18446744073709551615 }))
unfolding line_of number long_number
long_digits = refl

past_64_bits : line_of 3 2 (codes "job 2 digits 18446744073709551616") ≡ None
unfolding line_of number long_number
past_64_bits = refl

second_argument : line_of 3 2 (codes "job 2 digits 5 6") ≡ None
unfolding line_of number long_number
second_argument = refl

no_argument : line_of 3 2 (codes "job 2 sum") ≡ None
unfolding line_of number
no_argument = refl

no_such_arena : line_of 3 2 (codes "job 3 sum 100") ≡ None
unfolding line_of number
no_such_arena = refl

empty_text : plan_of [] ≡ Err (BadPlan 1)
unfolding ended_lines unfinished_line
empty_text = refl

-- a market and one arena
abbrev begin : List ℕ
begin = codes "market 8 64\narena 8 1 normal 2 0\n"

whole_plan :
    plan_of (begin ++ codes "job 1 sum 10\n")
    ≡ Ok (record {
      base = 8;
      hard = 64;
      levels = 3;
      arenas = record { slots = 8; reserved = 1; level = 2; wanted = 2; mandatory = 0 } ∷ [];
      controls = [];
      jobs = record { arena = 1; task = Sum 10 } ∷ [];
    })
unfolding ended_lines unfinished_line line_of number level
whole_plan = refl

arena_that_is_not_there : plan_of (begin ++ codes "job 2 sum 10") ≡ Err (BadPlan 3)
unfolding ended_lines unfinished_line line_of number level
arena_that_is_not_there = refl

no_arena : plan_of (codes "market 8 64") ≡ Err (BadPlan 1)
unfolding ended_lines unfinished_line line_of number
no_arena = refl
