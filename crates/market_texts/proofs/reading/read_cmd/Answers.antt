use Rattle.std.proofs.Common.{arith}
use Rattle.market_texts.specs.Reading.{reading}
use Rattle.market_texts.proofs.Letters.{no_open, no_priority, no_uncontrol, no_join, no_letter}
use Rattle.market_texts.proofs.reading.read_cmd.Goals as goal

pub returns-in_err-after_word-in-111 : goal.returns-in_err-after_word-in-111
unfolding reading
returns-in_err-after_word-in-111 c =
    rw c.from_residual.ensures record { exact = no_open c.args.text.now c.in-111.is c.in_err-after_word-in-111.ensures.none c.args.levels }

pub returns-in_err-after_word-in-112 : goal.returns-in_err-after_word-in-112
unfolding reading
returns-in_err-after_word-in-112 c =
    rw c.from_residual-in_err-after_word-in-112.ensures record { exact = no_priority c.args.text.now c.in-112.is c.in_err-after_word-in-112.ensures.none c.args.levels }

pub returns-in_err-after_word-in-117 : goal.returns-in_err-after_word-in-117
unfolding reading
returns-in_err-after_word-in-117 c =
    rw c.from_residual-in_err-after_word-in-117.ensures record { exact = no_uncontrol c.args.text.now c.in-117.is c.in_err-after_word-in-117.ensures.none c.args.levels }

pub returns-in_err-after_word-in-106 : goal.returns-in_err-after_word-in-106
unfolding reading
returns-in_err-after_word-in-106 c =
    rw c.from_residual-in_err-after_word-in-106.ensures record { exact = no_join c.args.text.now c.in-106.is c.in_err-after_word-in-106.ensures.none c.args.levels }

pub returns-in_default : goal.returns-in_default
unfolding reading
returns-in_default c =
    record { exact = no_letter c.args.text.now (omega arith) (omega arith) (omega arith) (omega arith) (omega arith) (omega arith) (omega arith) (omega arith) c.args.levels }
