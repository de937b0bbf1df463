use Rattle.std.specs.Prelude.{Bool, true, false}
use Rattle.market_types.specs.declared.reply.Reply.{Reply}
use Rattle.market_types.specs.declared.reply.Reply.TheVariants.{Listed}

-- the reply lists arenas; no other reply holds memory (own)
abbrev pub is_listed : Reply → Bool
is_listed (Listed counts) = true
is_listed _ = false
