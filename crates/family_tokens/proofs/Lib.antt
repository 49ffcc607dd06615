mod TokenRules
