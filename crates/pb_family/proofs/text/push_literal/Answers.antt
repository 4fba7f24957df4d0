use Rattle.std.proofs.Common.{[], append-nil, sym}
use Rattle.pb_family.proofs.Fronts.{appended_front}
use Rattle.pb_family.proofs.text.push_literal.Goals as goal

pub returns-clause-before : goal.returns-clause-before
returns-clause-before c = appended_front c.extend_from_slice.result c.args.out.now.items [] _ c.args.out.now.items c.extend_from_slice.new.self.items (sym (append-nil c.args.out.now.items)) c.extend_from_slice.ensures.items
