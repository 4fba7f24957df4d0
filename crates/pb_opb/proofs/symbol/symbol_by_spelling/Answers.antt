use Rattle.std.proofs.Common.{sym, subst, ap, ◌∙◌, None}
use Rattle.pb_opb.specs.Grammar.{spelled, named_literal}
use Rattle.pb_base.specs.Numbers.{integer_of}
use Rattle.pb_opb.specs.reader.Symbols.{Names}
use Rattle.pb_opb.proofs.Limits.{none-is, wide-is, limited-names}
use Rattle.pb_opb.proofs.symbol.symbol_by_spelling.Goals as goal

pub returns-in-TooWide : goal.returns-in-TooWide
returns-in-TooWide c =
    let wide = wide-is (integer_of c.args.word.now) c.in-TooWide.ensures in
    (wide.0, ap (λ o. spelled o (named_literal c.args.word.now)) wide.1, wide.2)

pub returns-in-Near : goal.returns-in-Near
returns-in-Near c =
    let word = named_literal c.args.word.now in
    let near = subst (λ l. Names l word) (sym c.in-Near.ensures) (limited-names word) in
    (ap (λ o. spelled o word) (none-is (integer_of c.args.word.now) c.in-NotANumber.ensures) ∙ ap (spelled None) near.0, near.1, near.2)

pub returns-in-Far : goal.returns-in-Far
returns-in-Far c =
    let word = named_literal c.args.word.now in
    let far = subst (λ l. Names l word) (sym c.in-Far.ensures) (limited-names word) in
    (far.0, ap (λ o. spelled o word) (none-is (integer_of c.args.word.now) c.in-NotANumber.ensures) ∙ ap (spelled None) far.1, far.2)

pub returns-in-Long : goal.returns-in-Long
returns-in-Long c =
    let word = named_literal c.args.word.now in
    let long = subst (λ l. Names l word) (sym c.in-Long.ensures) (limited-names word) in
    (long.0, ap (λ o. spelled o word) (none-is (integer_of c.args.word.now) c.in-NotANumber.ensures) ∙ ap (spelled None) long.1, long.2)

pub returns-in-NotALiteral : goal.returns-in-NotALiteral
returns-in-NotALiteral c =
    let word = named_literal c.args.word.now in
    ap (λ o. spelled o word) (none-is (integer_of c.args.word.now) c.in-NotANumber.ensures) ∙ ap (spelled None) (subst (λ l. Names l word) (sym c.in-NotALiteral.ensures) (limited-names word))
