use Rattle.std.proofs.Common.{◌∙◌, ap, sym}
use Rattle.market_types.specs.Allotment.{demand, share_of}
use Rattle.allotment.proofs.Orders.{carry-in_order}
use Rattle.allotment.proofs.Carries.{carry_after-before, carry_after-whole, carry_after-levels, share_of-before, share_of-difference, share_of-few}
use Rattle.allotment.proofs.law.no_carry_to_keep.Goals as goal

pub returns-clause-before_an_arena : goal.returns-clause-before_an_arena
returns-clause-before_an_arena c = carry_after-before

pub returns-clause-after_a_level : goal.returns-clause-after_a_level
returns-clause-after_a_level c = carry_after-whole

pub returns-clause-after_levels : goal.returns-clause-after_levels
returns-clause-after_levels c = carry_after-levels

pub returns-clause-in_order : goal.returns-clause-in_order
returns-clause-in_order c = carry-in_order

pub returns-clause-share_in_order : goal.returns-clause-share_in_order
returns-clause-share_in_order c = λ s given before after a e some.
    ap (λ carry. share_of given (demand s) carry a)
    (carry-in_order s given before after a e ∙ sym (carry_after-before given (demand s) a.level before))
    ∙ share_of-difference given (demand s) before a some

pub returns-clause-share : goal.returns-clause-share
returns-clause-share c = share_of-before

pub returns-clause-difference : goal.returns-clause-difference
returns-clause-difference c = share_of-difference

pub returns-clause-no_more_than_asked : goal.returns-clause-no_more_than_asked
returns-clause-no_more_than_asked c = share_of-few
