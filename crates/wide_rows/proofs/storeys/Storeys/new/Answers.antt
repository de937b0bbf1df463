use Rattle.std.proofs.Common.{refl}
use Rattle.wide_rows.proofs.TwoStoreys.{blank_indexed, ten_blank}
use Rattle.wide_rows.proofs.storeys.Storeys.new.Goals as goal

pub returns : goal.returns
returns c = λ rows free. blank_indexed _ _ rows free refl
    (ten_blank c.new.result c.new-2.result c.new-3.result c.new-4.result c.new-5.result c.new-6.result c.new-7.result c.new-8.result c.new-9.result c.new-10.result
    c.new.ensures c.new-2.ensures c.new-3.ensures c.new-4.ensures c.new-5.ensures c.new-6.ensures c.new-7.ensures c.new-8.ensures c.new-9.ensures c.new-10.ensures)
    c.new-11.ensures
