use Rattle.dot.proofs.NodeRules.{token_plain, token_web}
use Rattle.dot.proofs.nodes.Numbered.put_token.Goals as goal

pub returns-then-has_web : goal.returns-then-has_web
returns-then-has_web c = let s = c.args.self.now in
    token_web _ _ _ _ c.has_web.ensures _ c.token_text-s.ensures _ _ c.if-has_web.true _ _ s.ranked c.requires _ _ _ c.word-f.ensures c.word-c.ensures c.word.ensures c.put_web.ensures

pub returns-else-has_web : goal.returns-else-has_web
returns-else-has_web c = token_plain _ _ _ _ c.has_web.ensures _ c.token_text-s.ensures _ _ c.if-has_web.false c.put_characters.ensures
