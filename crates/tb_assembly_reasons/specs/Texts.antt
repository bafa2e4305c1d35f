-- The texts of reasons.
use Rattle.std.specs.Prelude.{ℕ, List}
use Rattle.tb_assembly_reasons.specs.declared.reasons.LineReason.{LineReason}
use Rattle.tb_assembly_reasons.specs.declared.reasons.LineReason.TheVariants as reason
use Rattle.tb_assembly_reasons.specs.declared.reasons.TheConstants.{COLON, DIRECTIVE, ITEM, MNEMONIC, NAME, NUMBER, OPERAND, QUOTE, STRAY, SUM, TAB}

-- what is said of a reason
abbrev pub reason_text : LineReason → List ℕ
reason_text reason.Number = NUMBER.now
reason_text reason.Tab = TAB.now
reason_text reason.Quote = QUOTE.now
reason_text reason.Sum = SUM.now
reason_text reason.Stray = STRAY.now
reason_text reason.Item = ITEM.now
reason_text reason.Name = NAME.now
reason_text reason.Colon = COLON.now
reason_text reason.Directive = DIRECTIVE.now
reason_text reason.Mnemonic = MNEMONIC.now
reason_text reason.Operand = OPERAND.now
