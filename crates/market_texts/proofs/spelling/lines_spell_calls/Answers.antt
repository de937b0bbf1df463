use Rattle.market_texts.proofs.Laws as laws
use Rattle.market_texts.proofs.spelling.lines_spell_calls.Goals as goal

pub returns : goal.returns
returns c = record { spelled_is_read = laws.line_spelled_is_read; read_is_spelled = laws.line_read_is_spelled }
