mod AnswerRules
