mod UnsteadyLimit
