use Rattle.market_texts.proofs.Laws as laws
use Rattle.market_texts.proofs.spelling.texts_spell_commands.Goals as goal

pub returns : goal.returns
returns c = record {
  spelled_is_read = laws.spelled_is_read;
  read_is_spelled = laws.read_is_spelled;
  reads_back = laws.reads_back;
  one_command = laws.one_command;
}
