use Rattle.std.proofs.Common.{◌≡◌, replicate, ap, rules}
use Rattle.recall_hire.specs.declared.slots.Slot.{Slot}
use Rattle.recall_hire.proofs.Remainders.{nobody, nobody-in}
use Rattle.recall_hire.proofs.slots.SlotTable.new.Goals as goal

pub returns : goal.returns
returns c =
    let all : c.in_ok-vec.field-0.items ≡ replicate 1024 nobody = search rules in
    record { empty = λ i. rw all (ap (λ (s : Slot). s.seats) (nobody-in 1024 i)) }
